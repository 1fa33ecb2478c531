-- Settings one after another: which options they give, and that no option comes twice.
use Rattle.std.proofs.Common.{◌≡◌, ◌≢◌, ℕ, ◌<◌, suc, Bool, true, false, List, [], ◌∷◌, length, get_or, Option, Some, None, All, refl, sym, ap, ◌∙◌, subst, arith}
use Rattle.std.specs.List.{AllPairs, fold}
use Rattle.std.specs.Option.{option_and_then, is_some}
use Rattle.std.proofs.lemmas.List.Elements.{All-cons}
use Rattle.std.proofs.lemmas.List.Kept.{AllPairs-cons}
use Rattle.fs_machine.specs.declared.config.Mode.{Mode}
use Rattle.fsemu.specs.declared.given.Name.{Name}
use Rattle.fsemu.specs.declared.given.Name.TheVariants.{Project, Concurrency, Shards}
use Rattle.fsemu.specs.Words.{Setting, project, concurrency, shards, option_of, with_setting}
use Rattle.fsemu.specs.Reader.{Found, options_by, add}
use Rattle.fsemu.proofs.Settings.{name_of, name_text, called, told_apart}

-- whether the option was given
abbrev pub is_set : Found → Name → Bool
is_set found Project = is_some found.project
is_set found Concurrency = is_some found.mode
is_set found Shards = is_some found.shards

-- a setting was added to what was found
pub record IsAdded (f : Found) (s : Setting) (g : Found) : Type 0 where
  pub free : is_set f (name_of s) ≡ false
  pub itself : is_set g (name_of s) ≡ true
  pub others : (k : Name) → k ≢ name_of s → is_set g k ≡ is_set f k
  pub options : options_by g ≡ with_setting (options_by f) s

abbrev found : Option (List ℕ) → Option Mode → Option ℕ → Found
found p m n = record { project = p; mode = m; shards = n }

but_project : (p q : Option (List ℕ)) (m : Option Mode) (n : Option ℕ) (k : Name) → k ≢ Project → is_set (found p m n) k ≡ is_set (found q m n) k
but_project p q m n Project apart = absurd (apart refl)
but_project p q m n Concurrency apart = refl
but_project p q m n Shards apart = refl

but_mode : (p : Option (List ℕ)) (m l : Option Mode) (n : Option ℕ) (k : Name) → k ≢ Concurrency → is_set (found p m n) k ≡ is_set (found p l n) k
but_mode p m l n Project apart = refl
but_mode p m l n Concurrency apart = absurd (apart refl)
but_mode p m l n Shards apart = refl

but_shards : (p : Option (List ℕ)) (m : Option Mode) (n i : Option ℕ) (k : Name) → k ≢ Shards → is_set (found p m n) k ≡ is_set (found p m i) k
but_shards p m n i Project apart = refl
but_shards p m n i Concurrency apart = refl
but_shards p m n i Shards apart = absurd (apart refl)

by_fields : (p : Option (List ℕ)) (m : Option Mode) (n : Option ℕ) (s : Setting) (g : Found) → add (found p m n) s ≡ Some g → IsAdded (found p m n) s g
by_fields None m n (project name) g e =
    let is : found (Some name) m n ≡ g = cc in
    subst (IsAdded (found None m n) (project name)) is (record { free = refl; itself = refl; others = but_project (Some name) None m n; options = refl })
by_fields (Some q) m n (project name) g e = absurd (cc)
by_fields p None n (concurrency mode) g e =
    let is : found p (Some mode) n ≡ g = cc in
    subst (IsAdded (found p None n) (concurrency mode)) is (record { free = refl; itself = refl; others = but_mode p (Some mode) None n; options = refl })
by_fields p (Some l) n (concurrency mode) g e = absurd (cc)
by_fields p m None (shards k) g e =
    let is : found p m (Some k) ≡ g = cc in
    subst (IsAdded (found p m None) (shards k)) is (record { free = refl; itself = refl; others = but_shards p m (Some k) None; options = refl })
by_fields p m (Some i) (shards k) g e = absurd (cc)

added : (f : Found) (s : Setting) (g : Found) → add f s ≡ Some g → IsAdded f s g
added f s g e = by_fields f.project f.mode f.shards s g e

-- a setting whose option wasn't given can be added
can_by_fields : (p : Option (List ℕ)) (m : Option Mode) (n : Option ℕ) (s : Setting) → is_set (found p m n) (name_of s) ≡ false
    → (g : Found) × (add (found p m n) s ≡ Some g)
can_by_fields None m n (project name) e = (found (Some name) m n, refl)
can_by_fields (Some q) m n (project name) e = absurd (cc)
can_by_fields p None n (concurrency mode) e = (found p (Some mode) n, refl)
can_by_fields p (Some l) n (concurrency mode) e = absurd (cc)
can_by_fields p m None (shards k) e = (found p m (Some k), refl)
can_by_fields p m (Some i) (shards k) e = absurd (cc)

can_be_added : (f : Found) (s : Setting) → is_set f (name_of s) ≡ false → (g : Found) × (add f s ≡ Some g)
can_be_added f s e = can_by_fields f.project f.mode f.shards s e

-- ---- one after another

abbrev pub add_all : Found → List Setting → Option Found
add_all f [] = Some f
add_all f (s ∷ more) = option_and_then (λ g. add_all g more) (add f s)

-- the settings are of options that weren't given
abbrev pub AreFree : Found → List Setting → Type 0
AreFree f ss = All (λ s. is_set f (name_of s) ≡ false) ss

abbrev pub AreOnce : List Setting → Type 0
AreOnce ss = AllPairs (λ s t. option_of s ≢ option_of t) ss

-- what they come to
pub record AreAdded (f : Found) (ss : List Setting) (g : Found) : Type 0 where
  pub free : AreFree f ss
  pub once : AreOnce ss
  pub options : options_by g ≡ fold with_setting (options_by f) ss

-- what isn't given with the setting is another option
other : (f g : Found) (s t : Setting) → IsAdded f s g → is_set g (name_of t) ≡ false → name_of t ≢ name_of s
other f g s t one free e =
    let given : is_set g (name_of t) ≡ true = ap (is_set g) e ∙ one.itself in
    let bad : true ≡ false = sym given ∙ free in
    absurd (cc)

add_one : (f g h : Found) (s : Setting) (more : List Setting) → IsAdded f s h → AreAdded h more g → AreAdded f (s ∷ more) g
add_one f g h s more one rest =
    let apart = λ (k : ℕ) (d : Setting) (lt : k < length more). other f h s (get_or more k d) one (rest.free k d lt) in
    record {
      free = All-cons (λ t. is_set f (name_of t) ≡ false) s more one.free (λ k d lt. sym (one.others _ (apart k d lt)) ∙ rest.free k d lt);
      once = AllPairs-cons (λ s t. option_of s ≢ option_of t) s more (λ k d lt e. apart k d lt (sym (told_apart s (get_or more k d) e))) rest.once;
      options = rest.options ∙ ap (λ o. fold with_setting o more) one.options;
    }

by_first : (f g : Found) (s : Setting) (more : List Setting) (o : Option Found) → add f s ≡ o → option_and_then (λ h. add_all h more) o ≡ Some g
    → ((h : Found) → add_all h more ≡ Some g → AreAdded h more g) → AreAdded f (s ∷ more) g
by_first f g s more (Some h) is e next = add_one f g h s more (added f s h is) (next h e)
by_first f g s more None is e next = absurd (cc)

pub all_added : (f g : Found) (ss : List Setting) → add_all f ss ≡ Some g → AreAdded f ss g
all_added f g [] e =
    let is : f ≡ g = cc in
    record { free = λ k d lt. absurd (omega arith); once = λ i j d lt within. absurd (omega arith); options = ap options_by (sym is) }
all_added f g (s ∷ more) e = by_first f g s more _ refl e (λ h. all_added h g more)

-- the others stay free
stay_free : (f h : Found) (s : Setting) (more : List Setting) → IsAdded f s h → AreFree f (s ∷ more) → AreOnce (s ∷ more) → AreFree h more
stay_free f h s more one free once = λ k d lt.
    let t = get_or more k d in
    let apart : option_of s ≢ option_of t = once 0 (suc k) d (omega arith) (omega arith) in
    let other_name : name_of t ≢ name_of s = λ e. apart (called s ∙ (ap name_text (sym e) ∙ sym (called t))) in
    one.others (name_of t) other_name ∙ free (suc k) d (omega arith)

-- where no option comes twice, and none was given, all can be added
pub can_all_be_added : (f : Found) (ss : List Setting) → AreFree f ss → AreOnce ss → (g : Found) × (add_all f ss ≡ Some g)
can_all_be_added f [] free once = (f, refl)
can_all_be_added f (s ∷ more) free once =
    let first = can_be_added f s (free 0 s (omega arith)) in
    let h = first.0 in
    let rest = can_all_be_added h more (stay_free f h s more (added f s h first.1) free once) (λ i j d lt within. once (suc i) (suc j) d (omega arith) (omega arith)) in
    (rest.0, ap (option_and_then (λ g. add_all g more)) first.1 ∙ rest.1)
