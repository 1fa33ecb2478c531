-- What a write leaves locally: what it comes to, and where it is refused the document of before.
use Rattle.std.proofs.Common.{◌≡◌, refl, ap, sym, Option, Some, None, Result, Ok, Err, option_map, is_some, true, false}
use Rattle.fs_value.specs.declared.document.Document.{Document}
use Rattle.fs_status.specs.declared.refusal.Refusal.{Refusal}
use Rattle.fs_write.specs.Local.{left_or}
use Rattle.fs_write.specs.OneWrite.{Fault, unless}
use Rattle.fs_write.specs.Refused.{reason_of, refused}
use Rattle.fs_write.specs.declared.write_result.WriteResult.{WriteResult}

pub unmet_stays : (found : Option Fault) (before : Option Document) (rest : Result (Option Document × WriteResult) Fault)
    → is_some (option_map (reason_of 0) found) ≡ true → before ≡ left_or before (unless found rest)
unmet_stays None before rest is = absurd (cc)
unmet_stays (Some fault) before rest is = refl

pub met_done : (found : Option Fault) (before : Option Document) (rest : Result (Option Document × WriteResult) Fault) (r : Option Document × WriteResult)
    → is_some (option_map (reason_of 0) found) ≡ false → rest ≡ Ok r → r.0 ≡ left_or before (unless found rest)
met_done None before rest r is done = sym (ap (left_or before) done)
met_done (Some fault) before rest r is done = absurd (cc)

pub met_refused : (found : Option Fault) (before : Option Document) (rest : Result (Option Document × WriteResult) Fault) (e : Refusal)
    → is_some (option_map (reason_of 0) found) ≡ false → refused 0 rest ≡ Some e → before ≡ left_or before (unless found rest)
met_refused None before (Ok r) e is so = absurd (cc)
met_refused None before (Err fault) e is so = refl
met_refused (Some fault) before rest e is so = absurd (cc)
