-- What a session is read to be told is of the root's documents, with numbers of 32 bits.
use Rattle.std.proofs.Common.{◌≡◌, ℕ, ℤ, pos, negsuc, ◌<◌, ◌^◌, Bool, true, false, List, [], Option, Some, None, IfOk, IfSome, codes, bytes_eq, option_and_then, cond, ltb, refl, arith}
use Rattle.std.proofs.lemmas.Bool.Decides.{nat_tests}
use Rattle.serde_json.specs.Data.{Data}
use Rattle.fs_path.specs.Document.{IsDocumentOf}
use Rattle.fs_path.specs.Place.{member_place}
use Rattle.fs_path.specs.declared.name.DocName.{DocName}
use Rattle.fs_path.specs.declared.name.Root.{Root}
use Rattle.fs_path.specs.declared.place.Rule.TheVariants.{G}
use Rattle.fs_json.specs.Answer.{or_fault, ◌>>=◌}
use Rattle.fs_json.specs.Integer.{if_fits, integer_of}
use Rattle.fs_json.specs.Members.{one_of_at, only_at, required_as}
use Rattle.fs_json.specs.Paths.{document_name_at}
use Rattle.fs_json.specs.Scalars.{text_at}
use Rattle.fs_json.specs.Time.{required_time_at}
use Rattle.fs_json.specs.Walk.{all_at}
use Rattle.fs_json.proofs.Named.{document_name_is}
use Rattle.fs_json.proofs.Readings.{at_last_holds, either, in_turn_holds, member_holds, of_made, required_holds}
use Rattle.fs_json.proofs.Walks.{each_of_list}
use Rattle.fs_query.specs.declared.listen.Cause.{Cause}
use Rattle.fs_query.specs.declared.listen.ListenMessage.TheVariants.{Deleted, Removed}
use Rattle.fs_valjson.specs.Document.{document_at}
use Rattle.fs_valjson.specs.Valid.{IsValid}
use Rattle.fs_valjson.proofs.Valid.{document_valid}
use Rattle.fs_rpc.specs.ReadListen.{absent_at, cause_at, cause_in, cause_members, change_by, change_members, current_at, document_change_at, document_change_members, gone_at, gone_members, kind_in, listen_at, listen_members, natural_of, no_change_at, no_targets_at, number_at, remove_at, target_change_at, targets_alone_at, targets_in, token_at}
use Rattle.fs_rpc.specs.ValidMessage.{AreSmall, IsListenOf, IsSmall}

-- ---- numbers

fitting : (n : ℕ) (place : List ℕ) (b : Bool) → ltb n (2 ^ 31) ≡ b → IfOk (or_fault G place (cond b (Some (pos n)) None) >>= λ z. or_fault G place (natural_of z)) IsSmall
fitting n place true e = let small : n < 2 ^ 31 = grind (arith, nat_tests) in small
fitting n place false e = record {}

below : (n : ℕ) (place : List ℕ) (b : Bool) → IfOk (or_fault G place (cond b (Some (negsuc n)) None) >>= λ z. or_fault G place (natural_of z)) IsSmall
below n place true = record {}
below n place false = record {}

small_if : (o : Option ℤ) (place : List ℕ) → IfOk (or_fault G place (option_and_then (if_fits 31) o) >>= λ z. or_fault G place (natural_of z)) IsSmall
small_if None place = record {}
small_if (Some (pos n)) place = fitting n place (ltb n (2 ^ 31)) refl
small_if (Some (negsuc n)) place = below n place (ltb n (2 ^ 31))

pub number_small : (d : Data) (place : List ℕ) → IfOk (number_at d place) IsSmall
number_small d place = small_if (integer_of d) place

targets_small : (name : List ℕ) (d : Data) (place : List ℕ) → IfOk (targets_in name d place) AreSmall
targets_small name d place = member_holds AreSmall [] (all_at number_at) name d place (λ x p. each_of_list IsSmall number_at x p number_small) tt

-- ---- causes

abbrev CauseIsSmall : Cause → Type 0
CauseIsSmall c = IsSmall c.code

cause_small : (d : Data) (place : List ℕ) → IfOk (cause_at d place) CauseIsSmall
unfolding cause_at
cause_small d place =
    at_last_holds CauseIsSmall (only_at cause_members d place) _
    (λ u. in_turn_holds IsSmall CauseIsSmall (required_as number_at (codes "code") d place) _ (required_holds IsSmall number_at (codes "code") d place number_small)
    (λ code is. at_last_holds CauseIsSmall (required_as text_at (codes "message") d place) _ (λ message. is)))

abbrev IfCause : Option Cause → Type 0
IfCause o = IfSome o CauseIsSmall

cause_in_small : (d : Data) (place : List ℕ) → IfOk (cause_in d place) IfCause
cause_in_small d place =
    member_holds IfCause None _ (codes "cause") d place (λ x p. of_made CauseIsSmall IfCause Some (cause_at x p) (cause_small x p) (λ c is. is)) (record {})

-- ---- changes of targets

alone_small : (d : Data) (place : List ℕ) → IfOk (targets_alone_at d place) AreSmall
unfolding targets_alone_at
alone_small d place =
    at_last_holds AreSmall (absent_at (codes "cause") d place) _
    (λ u. at_last_holds AreSmall (absent_at (codes "readTime") d place) _
    (λ v. at_last_holds AreSmall (absent_at (codes "resumeToken") d place) _ (λ w. targets_small (codes "targetIds") d place)))

remove_valid : (root : Root) (d : Data) (place : List ℕ) → IfOk (remove_at d place) (IsListenOf root)
unfolding remove_at
remove_valid root d place =
    in_turn_holds IfCause (IsListenOf root) (cause_in d place) _ (cause_in_small d place)
    (λ cause small. at_last_holds (IsListenOf root) (absent_at (codes "readTime") d place) _
    (λ u. at_last_holds (IsListenOf root) (absent_at (codes "resumeToken") d place) _
    (λ v. in_turn_holds AreSmall (IsListenOf root) (targets_in (codes "targetIds") d place) _ (targets_small (codes "targetIds") d place) (λ targets are. (are, small)))))

current_valid : (root : Root) (d : Data) (place : List ℕ) → IfOk (current_at d place) (IsListenOf root)
unfolding current_at
current_valid root d place =
    at_last_holds (IsListenOf root) (absent_at (codes "cause") d place) _
    (λ u. at_last_holds (IsListenOf root) (required_time_at (codes "readTime") d place) _
    (λ time. at_last_holds (IsListenOf root) (required_as token_at (codes "resumeToken") d place) _
    (λ token. in_turn_holds AreSmall (IsListenOf root) (targets_in (codes "targetIds") d place) _ (targets_small (codes "targetIds") d place) (λ targets are. are))))

no_change_valid : (root : Root) (d : Data) (place : List ℕ) → IfOk (no_change_at d place) (IsListenOf root)
unfolding no_change_at
no_change_valid root d place =
    at_last_holds (IsListenOf root) (absent_at (codes "cause") d place) _
    (λ u. at_last_holds (IsListenOf root) (required_time_at (codes "readTime") d place) _
    (λ time. at_last_holds (IsListenOf root) (required_as token_at (codes "resumeToken") d place) _
    (λ token. at_last_holds (IsListenOf root) (targets_in (codes "targetIds") d place) _
    (λ targets. at_last_holds (IsListenOf root) (no_targets_at (member_place place (codes "targetIds")) targets) _ (λ v. tt)))))

kind_valid : (root : Root) (kind : List ℕ) (d : Data) (place : List ℕ) → IfOk (change_by kind d place) (IsListenOf root)
kind_valid root kind d place =
    either (IsListenOf root) (bytes_eq kind (codes "NO_CHANGE")) _ _ (no_change_valid root d place)
    (either (IsListenOf root) (bytes_eq kind (codes "ADD")) _ _ (in_turn_holds AreSmall (IsListenOf root) (targets_alone_at d place) _ (alone_small d place) (λ targets are. are))
    (either (IsListenOf root) (bytes_eq kind (codes "REMOVE")) _ _ (remove_valid root d place)
    (either (IsListenOf root) (bytes_eq kind (codes "CURRENT")) _ _ (current_valid root d place)
    (either (IsListenOf root) (bytes_eq kind (codes "RESET")) _ _ (in_turn_holds AreSmall (IsListenOf root) (targets_alone_at d place) _ (alone_small d place) (λ targets are. are))
    (record {})))))

change_valid : (root : Root) (d : Data) (place : List ℕ) → IfOk (target_change_at d place) (IsListenOf root)
unfolding target_change_at
change_valid root d place =
    at_last_holds (IsListenOf root) (only_at change_members d place) _
    (λ u. at_last_holds (IsListenOf root) (kind_in d place) _ (λ kind. kind_valid root kind d place))

-- ---- documents

document_change_valid : (root : Root) (d : Data) (place : List ℕ) → IfOk (document_change_at root d place) (IsListenOf root)
unfolding document_change_at
document_change_valid root d place =
    at_last_holds (IsListenOf root) (only_at document_change_members d place) _
    (λ u. in_turn_holds (IsValid root) (IsListenOf root) (required_as (document_at root) (codes "document") d place) _
    (required_holds (IsValid root) (document_at root) (codes "document") d place (document_valid root))
    (λ document is. in_turn_holds AreSmall (IsListenOf root) (targets_in (codes "removedTargetIds") d place) _ (targets_small (codes "removedTargetIds") d place)
    (λ left left_are. in_turn_holds AreSmall (IsListenOf root) (targets_in (codes "targetIds") d place) _ (targets_small (codes "targetIds") d place) (λ targets are. (is, are, left_are)))))

-- a name of the root, and the numbers of targets
abbrev IsGoneOf : Root → DocName × ℤ × List ℕ → Type 0
IsGoneOf root g = IsDocumentOf root g.0 × AreSmall g.2

gone_valid : (root : Root) (d : Data) (place : List ℕ) → IfOk (gone_at root d place) (IsGoneOf root)
unfolding gone_at
gone_valid root d place =
    at_last_holds (IsGoneOf root) (only_at gone_members d place) _
    (λ u. in_turn_holds (IsDocumentOf root) (IsGoneOf root) (required_as (document_name_at root) (codes "document") d place) _
    (required_holds (IsDocumentOf root) (document_name_at root) (codes "document") d place (document_name_is root))
    (λ name is. at_last_holds (IsGoneOf root) (required_time_at (codes "readTime") d place) _
    (λ time. in_turn_holds AreSmall (IsGoneOf root) (targets_in (codes "removedTargetIds") d place) _ (targets_small (codes "removedTargetIds") d place) (λ left are. (is, are)))))

-- ---- what is told

pub listen_valid : (root : Root) (d : Data) (place : List ℕ) → IfOk (listen_at root d place) (IsListenOf root)
unfolding listen_at
listen_valid root d place =
    at_last_holds (IsListenOf root) (only_at listen_members d place) _
    (λ u. at_last_holds (IsListenOf root) (one_of_at listen_members d place) _
    (λ one. let inside = member_place place one.0 in
    either (IsListenOf root) (bytes_eq one.0 (codes "targetChange")) _ _ (change_valid root one.1 inside)
    (either (IsListenOf root) (bytes_eq one.0 (codes "documentChange")) _ _ (document_change_valid root one.1 inside)
    (either (IsListenOf root) (bytes_eq one.0 (codes "documentDelete")) _ _
    (of_made (IsGoneOf root) (IsListenOf root) (λ g. Deleted g.0 g.1 g.2) (gone_at root one.1 inside) (gone_valid root one.1 inside) (λ g is. is))
    (of_made (IsGoneOf root) (IsListenOf root) (λ g. Removed g.0 g.1 g.2) (gone_at root one.1 inside) (gone_valid root one.1 inside) (λ g is. is))))))
