-- What an option sets by a text, and the texts that set it.
use Rattle.std.proofs.Common.{◌≡◌, ℕ, ◌&&◌, nat_le, Bool, true, false, cond, List, Some, None, Option, refl, sym, ap, ◌∙◌, subst, arith, leb-true, codes}
use Rattle.std.proofs.lemmas.Bool.{and_parts}
use Rattle.std.proofs.lemmas.Bool.Decides.{nat_tests}
use Rattle.std.specs.Bool.{IsTrue}
use Rattle.std.specs.Option.{option_map, option_and_then}
use Rattle.std.specs.Str.Parse.{digits_value}
use Rattle.fs_path.specs.TextOrder.{text_eq, text_is}
use Rattle.fs_path.specs.Scope.{most_shards}
use Rattle.fs_machine.specs.declared.config.Mode.{Mode}
use Rattle.fs_machine.specs.declared.config.Mode.TheVariants.{Pessimistic, Optimistic}
use Rattle.fsemu.specs.declared.given.Name.{Name}
use Rattle.fsemu.specs.declared.given.Name.TheVariants.{Project, Concurrency, Shards}
use Rattle.fsemu.specs.Words.{Setting, project, concurrency, shards, option_of, is_project, is_number, mode_text, IsValue}
use Rattle.fsemu.specs.Reader.{name_in, mode_in, if_shards, setting_in}

-- the option that sets it
abbrev pub name_of : Setting → Name
name_of (project _) = Project
name_of (concurrency _) = Concurrency
name_of (shards _) = Shards

-- how it is called
abbrev pub name_text : Name → List ℕ
name_text Project = codes "--project"
name_text Concurrency = codes "--concurrency"
name_text Shards = codes "--shards"

pub called : (s : Setting) → option_of s ≡ name_text (name_of s)
called (project _) = refl
called (concurrency _) = refl
called (shards _) = refl

-- an option's name is read as it
pub named_back : (s : Setting) → name_in (option_of s) ≡ Some (name_of s)
named_back (project _) = refl
named_back (concurrency _) = refl
named_back (shards _) = refl

-- no two are called alike
pub told_apart : (s t : Setting) → option_of s ≡ option_of t → name_of s ≡ name_of t
told_apart s t e =
    let names : Some (name_of s) ≡ Some (name_of t) = sym (named_back s) ∙ (ap name_in e ∙ named_back t) in
    cc

by_tests : (text : List ℕ) (a b c : Bool) (n : Name) → text_eq text (name_text Project) ≡ a → text_eq text (name_text Concurrency) ≡ b → text_eq text (name_text Shards) ≡ c
    → cond a (Some Project) (cond b (Some Concurrency) (cond c (Some Shards) None)) ≡ Some n → text ≡ name_text n
by_tests text true b c n p q r e = let is : Project ≡ n = cc in subst (λ m. text ≡ name_text m) is (text_is _ _ p)
by_tests text false true c n p q r e = let is : Concurrency ≡ n = cc in subst (λ m. text ≡ name_text m) is (text_is _ _ q)
by_tests text false false true n p q r e = let is : Shards ≡ n = cc in subst (λ m. text ≡ name_text m) is (text_is _ _ r)
by_tests text false false false n p q r e = absurd (cc)

-- a name that was read is the option's
pub named : (text : List ℕ) (n : Name) → name_in text ≡ Some n → text ≡ name_text n
named text n = by_tests text _ _ _ n refl refl refl

-- a mode that was read has this text
mode_by_tests : (text : List ℕ) (a b : Bool) (m : Mode) → text_eq text (mode_text Pessimistic) ≡ a → text_eq text (mode_text Optimistic) ≡ b
    → cond a (Some Pessimistic) (cond b (Some Optimistic) None) ≡ Some m → text ≡ mode_text m
mode_by_tests text true b m p q e = let is : Pessimistic ≡ m = cc in subst (λ m. text ≡ mode_text m) is (text_is _ _ p)
mode_by_tests text false true m p q e = let is : Optimistic ≡ m = cc in subst (λ m. text ≡ mode_text m) is (text_is _ _ q)
mode_by_tests text false false m p q e = absurd (cc)

mode_read : (text : List ℕ) (m : Mode) → mode_in text ≡ Some m → text ≡ mode_text m
mode_read text m = mode_by_tests text _ _ m refl refl

mode_again : (m : Mode) → mode_in (mode_text m) ≡ Some m
mode_again Pessimistic = refl
mode_again Optimistic = refl

-- ---- what was read is such a setting

as_project : (text : List ℕ) (b : Bool) (s : Setting) → is_project text ≡ b → cond b (Some (project text)) None ≡ Some s
    → (option_of s ≡ name_text Project) × IsValue s text
as_project text true s is e =
    let same : project text ≡ s = cc in
    subst (λ s. (option_of s ≡ name_text Project) × IsValue s text) same (refl, (refl, is))
as_project text false s is e = absurd (cc)

as_mode : (text : List ℕ) (o : Option Mode) (s : Setting) → mode_in text ≡ o → option_map concurrency o ≡ Some s
    → (option_of s ≡ name_text Concurrency) × IsValue s text
as_mode text (Some m) s is e =
    let same : concurrency m ≡ s = cc in
    subst (λ s. (option_of s ≡ name_text Concurrency) × IsValue s text) same (refl, mode_read text m is)
as_mode text None s is e = absurd (cc)

as_shards : (text : List ℕ) (n : ℕ) (b : Bool) (s : Setting) → IsTrue (is_number text) → digits_value 10 text ≡ n → (nat_le 1 n && nat_le n most_shards) ≡ b
    → option_map shards (cond b (Some n) None) ≡ Some s → (option_of s ≡ name_text Shards) × IsValue s text
as_shards text n true s is value few e =
    let same : shards n ≡ s = cc in
    let bounds = and_parts _ _ few in
    subst (λ s. (option_of s ≡ name_text Shards) × IsValue s text) same (refl, (is, value, leb-true _ _ bounds.0, leb-true _ _ bounds.1))
as_shards text n false s is value few e = absurd (cc)

as_number : (text : List ℕ) (b : Bool) (s : Setting) → is_number text ≡ b → option_map shards (option_and_then if_shards (cond b (Some (digits_value 10 text)) None)) ≡ Some s
    → (option_of s ≡ name_text Shards) × IsValue s text
as_number text true s is e = as_shards text (digits_value 10 text) _ s is refl refl e
as_number text false s is e = absurd (cc)

pub read : (n : Name) (text : List ℕ) (s : Setting) → setting_in n text ≡ Some s → (option_of s ≡ name_text n) × IsValue s text
read Project text s e = as_project text _ s refl e
read Concurrency text s e = as_mode text _ s refl e
read Shards text s e = as_number text _ s refl e

-- ---- a text for a setting is read as it

pub again : (s : Setting) (text : List ℕ) → IsValue s text → setting_in (name_of s) text ≡ Some s
again (project name) text h = rw (h.0) (rw (h.1) refl)
again (concurrency m) text h = ap (λ t. option_map concurrency (mode_in t)) h ∙ ap (option_map concurrency) (mode_again m)
again (shards n) text (is, value, some, few) =
    let fits : (nat_le 1 n && nat_le n most_shards) ≡ true = grind (arith, nat_tests) in
    rw (is, value, fits) refl
