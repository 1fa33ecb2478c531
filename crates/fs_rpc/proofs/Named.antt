-- A status names one code, and each code has its status.
use Rattle.std.proofs.Common.{◌≡◌, ◌↔◌, ℕ, Bool, true, false, List, [], ◌∷◌, Option, Some, cond, find, refl, ap, sym, ◌∙◌}
use Rattle.std.proofs.lemmas.Slice.Eq.{bytes_eq-Decides}
use Rattle.std.specs.Str.{bytes_eq}
use Rattle.fs_status.specs.Status.{status_text}
use Rattle.fs_status.specs.declared.code.Code.{Code}
use Rattle.fs_status.specs.declared.code.Code.TheVariants.{InvalidArgument, FailedPrecondition, NotFound, AlreadyExists, Aborted, ResourceExhausted, Unimplemented, OutOfMemory}
use Rattle.fs_rpc.specs.ReadError.{all_codes, code_named}

-- whether a text is a code's status
abbrev names : List ℕ → Code → Bool
names text code = bytes_eq (status_text code) text

first_or_later : (text : List ℕ) (c code : Code) (later : Option Code) (b : Bool) → names text c ≡ b → (later ≡ Some code → status_text code ≡ text)
    → cond b (Some c) later ≡ Some code → status_text code ≡ text
first_or_later text c code later true is rest e =
    let same : c ≡ code = cc in
    ap status_text (sym same) ∙ (bytes_eq-Decides (status_text c) text).0 is
first_or_later text c code later false is rest e = rest e

-- what is found among codes has the status
among : (text : List ℕ) (cs : List Code) (code : Code) → find (names text) cs ≡ Some code → status_text code ≡ text
among text [] code e = absurd (cc)
among text (c ∷ cs) code e = first_or_later text c code (find (names text) cs) (names text c) refl (among text cs code) e

named : (code : Code) → code_named (status_text code) ≡ Some code
named InvalidArgument = refl
named FailedPrecondition = refl
named NotFound = refl
named AlreadyExists = refl
named Aborted = refl
named ResourceExhausted = refl
named Unimplemented = refl
named OutOfMemory = refl

pub named_both_ways : (text : List ℕ) (code : Code) → (code_named text ≡ Some code) ↔ (status_text code ≡ text)
named_both_ways text code = (among text all_codes code, λ same. ap code_named (sym same) ∙ named code)
