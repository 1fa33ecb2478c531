-- What a raise tells without a store, with what is deleted told by one, is what it sends over the history.
use Rattle.std.proofs.Common.{◌≡◌, ℕ, ℤ, Bool, true, false, cond, List, [], ◌∷◌, ◌++◌, map, Option, Some, None, refl, ap, ◌∙◌}
use Rattle.std.specs.List.{flat_map}
use Rattle.fs_path.specs.declared.name.DocName.{DocName}
use Rattle.fs_token.specs.Token.{token_of}
use Rattle.fs_query.specs.declared.listen.ListenMessage.TheVariants as message
use Rattle.fs_value.specs.declared.document.Document.{Document}
use Rattle.fs_listen.specs.Listening.{Listening}
use Rattle.fs_listen.specs.Sent.{current_from, new_targets, sent}
use Rattle.fs_listen.specs.Told.{Views, gone_from, having, is_differing, leaving, names_of, shown_in, told, told_of}
use Rattle.fs_target.specs.Laws.{with_deleted}

map-append : {X Y : Type 0} (f : X → Y) (xs ys : List X) → map f (xs ++ ys) ≡ map f xs ++ map f ys
map-append f [] ys = refl
map-append f (x ∷ xs) ys = ap (λ zs. f x ∷ zs) (map-append f xs ys)

module _ (stands : DocName → Bool) (time : ℤ) where
  gone : (name : DocName) (ids : List ℕ) → map (with_deleted stands) (gone_from true time name ids) ≡ gone_from (stands name) time name ids
  gone name [] = refl
  gone name (id ∷ ids) = refl

  told_at : (name : DocName) (shown : Option Document) (vs : List Views) → map (with_deleted stands) (told_of true time name shown vs) ≡ told_of (stands name) time name shown vs
  told_at name None vs = gone name (leaving name vs)
  told_at name (Some d) vs = by_test (is_differing name vs) where
    by_test : (differs : Bool) → map (with_deleted stands) (cond differs (message.Changed d (having name vs) (leaving name vs) ∷ []) []) ≡ cond differs (message.Changed d (having name vs) (leaving name vs) ∷ []) []
    by_test true = refl
    by_test false = refl

  told_all : (vs : List Views) (names : List DocName)
      → map (with_deleted stands) (flat_map (λ name. told_of true time name (shown_in name vs) vs) names) ≡ flat_map (λ name. told_of (stands name) time name (shown_in name vs) vs) names
  told_all vs [] = refl
  told_all vs (n ∷ names) =
      map-append (with_deleted stands) (told_of true time n (shown_in n vs) vs) _ ∙ (λ i. told_at n (shown_in n vs) vs i ++ told_all vs names i)

  current : (ids : List ℕ) → map (with_deleted stands) (current_from time ids) ≡ current_from time ids
  current [] = refl
  current (id ∷ ids) = refl

  pub sent_with_deleted : (s : Listening) (vs : List Views) → map (with_deleted stands) (sent (λ _. true) time s vs) ≡ sent stands time s vs
  sent_with_deleted s vs =
      map-append (with_deleted stands) (told (λ _. true) time vs) _
      ∙ (λ i. told_all vs (names_of vs) i ++ (map-append (with_deleted stands) (current_from time (new_targets s)) (message.NoChange time (token_of time) ∷ [])
      ∙ ap (λ ms. ms ++ message.NoChange time (token_of time) ∷ []) (current (new_targets s))) i)
