-- What stands at an id after what happens to the targets.
use Rattle.std.proofs.Common.{◌≡◌, ℕ, Bool, true, false, cond, ◌||◌, List, [], ◌∷◌, Option, Some, None, refl, sym, ap, ◌∙◌}
use Rattle.std.specs.Prelude.{◌==◌, is_some}
use Rattle.std.specs.FinMap.{get, get-insert, get-remove}
use Rattle.std.specs.Option.{option_map}
use Rattle.std.specs.Ordering.{eq_by_cmp, nat_cmp}
use Rattle.std.proofs.lemmas.Bool.{eqb-true}
use Rattle.std.proofs.lemmas.Cmp.{nat_cmp_total}
use Rattle.fs_query.specs.declared.listen.Cause.{Cause}
use Rattle.fs_listen.proofs.Listed.{number_is}
use Rattle.fs_cache.specs.Cached.{is_number}
use Rattle.fs_local.specs.Connect.{each}
use Rattle.fs_local.specs.State.{Targets}
use Rattle.fs_local.specs.Told.{current_at, refused_at, refused_targets, with_current}
use Rattle.fs_local.specs.declared.listened.Listened.{Listened}
use Rattle.fs_local.proofs.Mapped.{get_mapped}
use Rattle.fs_local.proofs.Numbers.{tied_is}

-- ---- each target is another

pub get_each : (change : Listened → Listened) (ts : Targets) (id : ℕ) → get (each change ts).listened id ≡ option_map change (get ts.listened id)
get_each change ts id = get_mapped nat_cmp change nat_cmp_total ts.listened id

pub some_each : (change : Listened → Listened) (ts : Targets) (q : ℕ) → is_some (get ts.listened q) ≡ true → is_some (get (each change ts).listened q) ≡ true
some_each change ts q there = ap is_some (get_each change ts q) ∙ same (get ts.listened q) there where
  same : (o : Option Listened) → is_some o ≡ true → is_some (option_map change o) ≡ true
  same None is = absurd (cc)
  same (Some l) is = refl

-- ---- some targets are told whole: whether the snapshot has them stays

abbrev pub shown_at : Targets → ℕ → Option Bool
shown_at ts id = option_map (λ (l : Listened). l.shown) (get ts.listened id)

one_current : (o : Option Listened) (id : ℕ) (ts : Targets) (q : ℕ) → get ts.listened id ≡ o → shown_at (current_at o id ts) q ≡ shown_at ts q
one_current None id ts q is = refl
one_current (Some l) id ts q is = ap (option_map (λ (k : Listened). k.shown)) (get-insert nat_cmp_total ts.listened id (record l { current = true }) q) ∙ by_test (eq_by_cmp nat_cmp q id) refl where
  by_test : (same : Bool) → eq_by_cmp nat_cmp q id ≡ same → option_map (λ (k : Listened). k.shown) (cond same (Some (record l { current = true })) (get ts.listened q)) ≡ shown_at ts q
  by_test true ties = sym (ap (option_map (λ (k : Listened). k.shown)) (ap (get ts.listened) (number_is q id ties) ∙ is))
  by_test false ties = refl

pub shown_current : (ids : List ℕ) (ts : Targets) (q : ℕ) → shown_at (with_current ids ts) q ≡ shown_at ts q
shown_current [] ts q = refl
shown_current (id ∷ ids) ts q = shown_current ids (current_at (get ts.listened id) id ts) q ∙ one_current (get ts.listened id) id ts q refl

pub some_current : (ids : List ℕ) (ts : Targets) (q : ℕ) → is_some (get (with_current ids ts).listened q) ≡ is_some (get ts.listened q)
some_current ids ts q = sym (same (get (with_current ids ts).listened q)) ∙ ap is_some (shown_current ids ts q) ∙ same (get ts.listened q) where
  same : (o : Option Listened) → is_some (option_map (λ (l : Listened). l.shown) o) ≡ is_some o
  same None = refl
  same (Some l) = refl

-- the snapshot's token stays
one_token : (o : Option Listened) (id : ℕ) (ts : Targets) → (current_at o id ts).token ≡ ts.token
one_token None id ts = refl
one_token (Some l) id ts = refl

pub token_current : (ids : List ℕ) (ts : Targets) → (with_current ids ts).token ≡ ts.token
token_current [] ts = refl
token_current (id ∷ ids) ts = token_current ids (current_at (get ts.listened id) id ts) ∙ one_token (get ts.listened id) id ts

-- ---- some targets are refused

one_refused : (o : Option Listened) (id : ℕ) (cause : Cause) (ts : Targets) (q : ℕ) → get ts.listened id ≡ o → get (refused_at o id cause ts).listened q ≡ cond (q == id) None (get ts.listened q)
one_refused None id cause ts q is = by_test (q == id) refl where
  by_test : (same : Bool) → (q == id) ≡ same → get ts.listened q ≡ cond same None (get ts.listened q)
  by_test true same = ap (get ts.listened) (eqb-true q id same) ∙ is
  by_test false same = refl
one_refused (Some l) id cause ts q is = get-remove nat_cmp_total ts.listened id q ∙ ap (λ b. cond b None (get ts.listened q)) (tied_is q id)

pub get_refused : (ids : List ℕ) (cause : Cause) (ts : Targets) (q : ℕ) → get (refused_targets ids cause ts).listened q ≡ cond (is_number ids q) None (get ts.listened q)
get_refused [] cause ts q = refl
get_refused (id ∷ ids) cause ts q =
    get_refused ids cause (refused_at (get ts.listened id) id cause ts) q
    ∙ ap (cond (is_number ids q) None) (one_refused (get ts.listened id) id cause ts q refl)
    ∙ by_tests (q == id) (is_number ids q)
  where
    by_tests : (here later : Bool) → cond later None (cond here None (get ts.listened q)) ≡ cond (here || later) None (get ts.listened q)
    by_tests true true = refl
    by_tests true false = refl
    by_tests false true = refl
    by_tests false false = refl

-- the snapshot's token stays
refused_token : (o : Option Listened) (id : ℕ) (cause : Cause) (ts : Targets) → (refused_at o id cause ts).token ≡ ts.token
refused_token None id cause ts = refl
refused_token (Some l) id cause ts = refl

pub token_refused : (ids : List ℕ) (cause : Cause) (ts : Targets) → (refused_targets ids cause ts).token ≡ ts.token
token_refused [] cause ts = refl
token_refused (id ∷ ids) cause ts = token_refused ids cause (refused_at (get ts.listened id) id cause ts) ∙ refused_token (get ts.listened id) id cause ts
