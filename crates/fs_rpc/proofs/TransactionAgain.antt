-- What is written of a begin and of a rollback is read as the same.
use Rattle.std.proofs.Common.{◌≡◌, ℕ, List, Option, Some, None, Ok, codes, refl}
use Rattle.fs_path.specs.Database.{database_text, IsDatabase}
use Rattle.fs_path.specs.Place.{member_place}
use Rattle.fs_path.specs.declared.name.Root.{Root}
use Rattle.serde_json.specs.Data.{Members, no_members, member, object}
use Rattle.fs_rpc.specs.Envelope.{envelope_at}
use Rattle.fs_rpc.specs.Id.{with_id_put}
use Rattle.fs_rpc.specs.Options.{options_at, options_json, read_only_at, read_write_at}
use Rattle.fs_rpc.specs.RequestJson.{begin_json, rollback_json}
use Rattle.fs_rpc.specs.RequestSteps.{AreOptionsHeld}
use Rattle.fs_rpc.specs.Requests.{begin_at, rollback_at}
use Rattle.fs_rpc.specs.Eight.{IsEightHeld}
use Rattle.fs_request.specs.declared.options.TransactionOptions.{TransactionOptions}
use Rattle.fs_request.specs.declared.options.TransactionOptions.TheVariants.{ReadWrite, ReadOnly}
use Rattle.fs_request.specs.declared.request.Request.{Request}
use Rattle.fs_request.specs.declared.request.Request.TheVariants.{BeginTransaction, Rollback}
use Rattle.fs_path.proofs.Databases.{database_taken}

options_again : (options : TransactionOptions) (place : List ℕ) → AreOptionsHeld options → options_at (options_json options) place ≡ Ok options
unfolding options_at read_only_at read_write_at
options_again ReadWrite place held = refl
options_again (ReadOnly None) place held = refl
options_again (ReadOnly (Some time)) place held = rw (held (member_place (member_place place (codes "readOnly")) (codes "readTime"))) refl

pub begin_again : (root : Root) (options : TransactionOptions) (place : List ℕ) → IsDatabase root → AreOptionsHeld options
    → begin_at root (begin_json root options) place ≡ Ok (BeginTransaction root options)
unfolding begin_at
begin_again root ReadWrite place named held =
    rw ((database_taken root (database_text root)).1 (named, refl), options_again ReadWrite (member_place place (codes "options")) held) refl
begin_again root (ReadOnly time) place named held =
    rw ((database_taken root (database_text root)).1 (named, refl), options_again (ReadOnly time) (member_place place (codes "options")) held) refl

pub rollback_again : (root : Root) (n : ℕ) (place : List ℕ) → IsDatabase root → IsEightHeld n → rollback_at root (rollback_json root n) place ≡ Ok (Rollback root n)
unfolding rollback_at
rollback_again root n place named held = rw ((database_taken root (database_text root)).1 (named, refl), held (member_place place (codes "transaction"))) refl

-- ---- with their ids

pub begin_read : (root : Root) (id : Option (List ℕ)) (ms : Members) (r : Request) → begin_at root (object ms) (codes "beginTransaction") ≡ Ok r
    → envelope_at root (object (with_id_put id (member (codes "beginTransaction") (object ms) no_members))) ≡ Ok (record { id = id; request = r })
unfolding envelope_at
begin_read root None ms r h = rw h refl
begin_read root (Some id) ms r h = rw h refl

pub rollback_read : (root : Root) (id : Option (List ℕ)) (ms : Members) (r : Request) → rollback_at root (object ms) (codes "rollback") ≡ Ok r
    → envelope_at root (object (with_id_put id (member (codes "rollback") (object ms) no_members))) ≡ Ok (record { id = id; request = r })
unfolding envelope_at
rollback_read root None ms r h = rw h refl
rollback_read root (Some id) ms r h = rw h refl
