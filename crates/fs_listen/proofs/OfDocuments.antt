-- What is told of names are messages of documents alone.
use Rattle.std.proofs.Common.{◌≡◌, ℕ, ℤ, Bool, true, false, cond, List, [], ◌∷◌, Option, Some, None, refl}
use Rattle.std.specs.List.{AllByRecursion, flat_map}
use Rattle.fs_path.specs.declared.name.DocName.{DocName}
use Rattle.fs_query.specs.declared.listen.ListenMessage.{ListenMessage}
use Rattle.fs_query.specs.declared.listen.ListenMessage.TheVariants as message
use Rattle.fs_value.specs.declared.document.Document.{Document}
use Rattle.fs_listen.specs.Told.{Views, gone_from, having, is_differing, leaving, names_of, shown_in, told, told_of}
use Rattle.fs_listen.proofs.All.{all_append}

abbrev pub is_of_document : ListenMessage → Bool
is_of_document (message.Add ids) = false
is_of_document (message.Remove ids cause) = false
is_of_document (message.Reset ids) = false
is_of_document (message.Current ids time token) = false
is_of_document (message.NoChange time token) = false
is_of_document (message.Changed d ids left) = true
is_of_document (message.Deleted name time left) = true
is_of_document (message.Removed name time left) = true

abbrev pub AreOfDocuments : List ListenMessage → Type 0
AreOfDocuments ms = AllByRecursion (λ m. is_of_document m ≡ true) ms

one_told : (stands : Bool) (time : ℤ) (name : DocName) (shown : Option Document) (vs : List Views) → AreOfDocuments (told_of stands time name shown vs)
one_told stands time name (Some d) vs = by_test (is_differing name vs) where
  by_test : (differs : Bool) → AreOfDocuments (cond differs (message.Changed d (having name vs) (leaving name vs) ∷ []) [])
  by_test true = (refl, tt)
  by_test false = tt
one_told stands time name None vs = by_leaving (leaving name vs) where
  by_leaving : (ls : List ℕ) → AreOfDocuments (gone_from stands time name ls)
  by_leaving [] = tt
  by_leaving (l ∷ ls) = by_kind stands where
    by_kind : (stand : Bool) → AreOfDocuments (cond stand (message.Removed name time (l ∷ ls)) (message.Deleted name time (l ∷ ls)) ∷ [])
    by_kind true = (refl, tt)
    by_kind false = (refl, tt)

all_told : (stands : DocName → Bool) (time : ℤ) (vs : List Views) (names : List DocName)
    → AreOfDocuments (flat_map (λ name. told_of (stands name) time name (shown_in name vs) vs) names)
all_told stands time vs [] = tt
all_told stands time vs (name ∷ names) =
    all_append (λ m. is_of_document m ≡ true) (told_of (stands name) time name (shown_in name vs) vs) (flat_map (λ other. told_of (stands other) time other (shown_in other vs) vs) names)
    (one_told (stands name) time name (shown_in name vs) vs) (all_told stands time vs names)

pub told_of_documents : (stands : DocName → Bool) (time : ℤ) (vs : List Views) → AreOfDocuments (told stands time vs)
told_of_documents stands time vs = all_told stands time vs (names_of vs)
