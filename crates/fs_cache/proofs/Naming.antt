-- Documents that bear the names that they stand at: what happens to them keeps it so.
use Rattle.std.proofs.Common.{◌≡◌, ℕ, Bool, true, false, cond, List, [], ◌∷◌, Option, Some, None, refl, sym, ap, ◌∙◌, subst}
use Rattle.std.specs.Prelude.{IfSome, IsTrue}
use Rattle.std.specs.BTreeMap.{is_at}
use Rattle.std.specs.FinMap.{empty, get, get-empty}
use Rattle.std.specs.Option.{is_some}
use Rattle.fs_path.specs.NameOrder.{name_cmp, name_eq, name_is}
use Rattle.fs_path.specs.declared.name.DocName.{DocName}
use Rattle.fs_value.specs.declared.document.Document.{Document}
use Rattle.fs_cache.specs.Cached.{Had, all_left_by, left_by, of_targets, with_cached, without}
use Rattle.fs_cache.specs.Places.{AreNamed, HavePlaces, IsKept, IsPut, Places, laid_on, place_at, staged_in, standing_in}
use Rattle.fs_cache.specs.declared.cached.CachedDocument.{CachedDocument}
use Rattle.fs_cache.proofs.Laid.{get-with_cached, laid_put}
use Rattle.fs_cache.proofs.Leaving.{get-all_left_by}

abbrev pub Bears : DocName → Option CachedDocument → Type 0
Bears name o = IfSome o (λ c. c.document.name ≡ name)

-- ---- one of them

of_named : (d : Document) (ts : List ℕ) → Bears d.name (of_targets d ts)
of_named d [] = tt
of_named d (t ∷ ts) = refl

left_named : (gone : List ℕ) (name : DocName) (o : Option CachedDocument) → Bears name o → Bears name (left_by gone o)
left_named gone name None bears = tt
left_named gone name (Some c) bears = subst (λ n. Bears n (left_by gone (Some c))) bears (of_named c.document (without gone c.targets))

-- ---- all

none_named : AreNamed empty
none_named q = subst (Bears q) (sym (get-empty name_cmp q)) tt

named_with : (docs : Had) (name : DocName) (o : Option CachedDocument) → AreNamed docs → Bears name o → AreNamed (with_cached docs name o)
named_with docs name o named bears q = subst (Bears q) (sym (get-with_cached docs name o q)) (one (name_eq q name) refl) where
  one : (b : Bool) → name_eq q name ≡ b → Bears q (cond b o (get docs q))
  one true ties = subst (λ n. Bears n o) (sym (name_is q name ties)) bears
  one false ties = named q

named_left : (gone : List ℕ) (docs : Had) → AreNamed docs → AreNamed (all_left_by gone docs)
named_left gone docs named q = subst (Bears q) (sym (get-all_left_by gone docs q)) (left_named gone q (get docs q) (named q))

-- ---- what is kept

pub kept_none : IsKept [] []
kept_none = record { taken_named = none_named; staged_named = none_named; placed = λ q some. some }

module _ (places changes : Places) (kept : IsKept places changes) where
  -- what is to stand at one place
  module _ (new next : Places) (name : DocName) (o : Option CachedDocument) (same : standing_in new ≡ standing_in places) (put : IsPut changes next name (Some o)) where
    pub staged_at : staged_in new next ≡ with_cached (staged_in places changes) name o
    staged_at = ap (λ docs. laid_on docs next) same ∙ laid_put changes next name (standing_in places) o put

    pub kept_staged : ((q : DocName) → IsTrue (is_some (place_at places q)) → IsTrue (is_some (place_at new q))) → IsTrue (is_some (place_at new name)) → Bears name o → IsKept new next
    kept_staged stay there bears = record {
      taken_named = subst AreNamed (sym same) kept.taken_named;
      staged_named = subst AreNamed (sym staged_at) (named_with (staged_in places changes) name o kept.staged_named bears);
      placed = λ q some. one q (is_at (name_cmp name) q) refl (sym (ap is_some (put q)) ∙ some);
    } where
      one : (q : DocName) (b : Bool) → is_at (name_cmp name) q ≡ b → is_some (cond b (Some o) (place_at changes q)) ≡ true → IsTrue (is_some (place_at new q))
      one q true ties some = subst (λ n. IsTrue (is_some (place_at new n))) (name_is name q ties) there
      one q false ties some = stay q (kept.placed q some)

  -- what is left by some targets
  pub kept_left : (gone : List ℕ) (next : Places) → staged_in places next ≡ all_left_by gone (staged_in places changes) → HavePlaces places next → IsKept places next
  kept_left gone next staged placed = record {
    taken_named = kept.taken_named;
    staged_named = subst AreNamed (sym staged) (named_left gone (staged_in places changes) kept.staged_named);
    placed = placed;
  }

  pub kept_forgotten : (gone : List ℕ) (new next : Places) → standing_in new ≡ all_left_by gone (standing_in places)
      → ((docs : Had) → laid_on (all_left_by gone docs) next ≡ all_left_by gone (laid_on docs changes)) → HavePlaces new next → IsKept new next
  kept_forgotten gone new next standing staged placed = record {
    taken_named = subst AreNamed (sym standing) (named_left gone (standing_in places) kept.taken_named);
    staged_named =
        subst AreNamed (sym (ap (λ docs. laid_on docs next) standing ∙ staged (standing_in places))) (named_left gone (staged_in places changes) kept.staged_named);
    placed = placed;
  }
