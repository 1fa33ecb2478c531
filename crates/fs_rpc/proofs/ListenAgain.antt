-- What is written of what a session is told is read as the same.
use Rattle.std.proofs.Common.{◌≡◌, ℕ, ℤ, pos, ◌+◌, ◌^◌, true, List, [], ◌∷◌, map, Option, Some, None, Ok, IfSome, codes, refl, arith, ltb}
use Rattle.std.proofs.lemmas.Bool.Decides.{nat_tests}
use Rattle.serde_json.specs.Data.{Members, no_members, object}
use Rattle.serde_json.specs.View.{items_of}
use Rattle.fs_path.specs.Document.{document_of, document_text, IsDocumentOf}
use Rattle.fs_path.specs.Place.{item_place, member_place}
use Rattle.fs_path.specs.declared.name.DocName.{DocName}
use Rattle.fs_path.specs.declared.name.Root.{Root}
use Rattle.fs_path.proofs.Documents.{document_only}
use Rattle.fs_json.specs.Integer.{small_of}
use Rattle.fs_json.specs.Members.{is_given, with_one}
use Rattle.fs_json.specs.Time.{IsTimeHeld}
use Rattle.fs_json.specs.Walk.{each_at}
use Rattle.fs_query.specs.declared.listen.Cause.{Cause}
use Rattle.fs_query.specs.declared.listen.ListenMessage.{ListenMessage}
use Rattle.fs_query.specs.declared.listen.ListenMessage.TheVariants.{Add, Remove, Reset, Current, NoChange, Changed, Deleted, Removed}
use Rattle.fs_value.specs.declared.document.Document.{Document}
use Rattle.fs_valjson.specs.Document.{document_at, document_json}
use Rattle.fs_rpc.specs.ListenJson.{cause_json, changed_members, gone_members, kind_members, listen_json, number_json, with_cause, with_moment}
use Rattle.fs_rpc.specs.MessageSteps.{IsListenHeld, IsTokenHeld}
use Rattle.fs_rpc.specs.ReadListen.{cause_at, current_at, document_change_at, gone_at, listen_at, no_change_at, number_at, remove_at, target_change_at, targets_alone_at}
use Rattle.fs_rpc.specs.ValidMessage.{AreSmall, IsListenOf, IsSmall}

-- ---- numbers

small_again : (n : ℕ) → IsSmall n → small_of (number_json n) ≡ Some (pos n)
small_again n small =
    let long : ltb n (2 ^ 63) ≡ true = grind (arith, nat_tests) in
    let short : ltb n (2 ^ 31) ≡ true = grind (arith, nat_tests) in
    rw (long, short) refl

pub number_again : (n : ℕ) (place : List ℕ) → IsSmall n → number_at (number_json n) place ≡ Ok n
number_again n place small = rw (small_again n small) refl

numbers_again : (ns : List ℕ) (i : ℕ) (place : List ℕ) → AreSmall ns → each_at number_at (items_of (map number_json ns)) i place ≡ Ok ns
numbers_again [] i place each = refl
numbers_again (n ∷ ns) i place each = rw (number_again n (item_place place i) each.0, numbers_again ns (i + 1) place each.1) refl

-- ---- changes of targets

add_again : (targets : List ℕ) (place : List ℕ) → AreSmall targets → target_change_at (object (kind_members (codes "ADD") targets)) place ≡ Ok (Add targets)
unfolding target_change_at targets_alone_at
add_again [] place each = refl
add_again (n ∷ ns) place each = rw (numbers_again (n ∷ ns) 0 (member_place place (codes "targetIds")) each) refl

reset_again : (targets : List ℕ) (place : List ℕ) → AreSmall targets → target_change_at (object (kind_members (codes "RESET") targets)) place ≡ Ok (Reset targets)
unfolding target_change_at targets_alone_at
reset_again [] place each = refl
reset_again (n ∷ ns) place each = rw (numbers_again (n ∷ ns) 0 (member_place place (codes "targetIds")) each) refl

cause_again : (c : Cause) (place : List ℕ) → IsSmall c.code → cause_at (cause_json c) place ≡ Ok c
unfolding cause_at
cause_again c place small = rw (number_again c.code (member_place place (codes "code")) small) refl

remove_again : (targets : List ℕ) (cause : Option Cause) (place : List ℕ) → AreSmall targets → IfSome cause (λ c. IsSmall c.code)
    → target_change_at (object (with_cause cause (kind_members (codes "REMOVE") targets))) place ≡ Ok (Remove targets cause)
unfolding target_change_at remove_at
remove_again [] None place each small = refl
remove_again (n ∷ ns) None place each small = rw (numbers_again (n ∷ ns) 0 (member_place place (codes "targetIds")) each) refl
remove_again [] (Some c) place each small = rw (cause_again c (member_place place (codes "cause")) small) refl
remove_again (n ∷ ns) (Some c) place each small =
    rw (cause_again c (member_place place (codes "cause")) small, numbers_again (n ∷ ns) 0 (member_place place (codes "targetIds")) each) refl

current_again : (targets : List ℕ) (time : ℤ) (token : List ℕ) (place : List ℕ) → IsTimeHeld time → IsTokenHeld token → AreSmall targets
    → target_change_at (object (with_moment time token (kind_members (codes "CURRENT") targets))) place ≡ Ok (Current targets time token)
unfolding target_change_at current_at
current_again [] time token place t k each = rw (t (member_place place (codes "readTime")), k) refl
current_again (n ∷ ns) time token place t k each =
    rw (t (member_place place (codes "readTime")), k, numbers_again (n ∷ ns) 0 (member_place place (codes "targetIds")) each) refl

no_change_again : (time : ℤ) (token : List ℕ) (place : List ℕ) → IsTimeHeld time → IsTokenHeld token
    → target_change_at (object (with_moment time token no_members)) place ≡ Ok (NoChange time token)
unfolding target_change_at no_change_at
no_change_again time token place t k = rw (t (member_place place (codes "readTime")), k) refl

-- ---- documents

document_given : (key : List ℕ) (d : Document) → is_given key (document_json d) ≡ true
unfolding document_json
document_given key d = refl

changed_again : (root : Root) (document : Document) (targets left : List ℕ) (place : List ℕ)
    → document_at root (document_json document) (member_place place (codes "document")) ≡ Ok document → AreSmall targets → AreSmall left
    → document_change_at root (object (changed_members document targets left)) place ≡ Ok (Changed document targets left)
unfolding document_change_at
changed_again root document [] [] place h are left_are = rw (document_given (codes "document") document, h) refl
changed_again root document (n ∷ ns) [] place h are left_are =
    rw (document_given (codes "document") document, h, numbers_again (n ∷ ns) 0 (member_place place (codes "targetIds")) are) refl
changed_again root document [] (l ∷ ls) place h are left_are =
    rw (document_given (codes "document") document, h, numbers_again (l ∷ ls) 0 (member_place place (codes "removedTargetIds")) left_are) refl
changed_again root document (n ∷ ns) (l ∷ ls) place h are left_are =
    rw (document_given (codes "document") document, h, numbers_again (l ∷ ls) 0 (member_place place (codes "removedTargetIds")) left_are, numbers_again (n ∷ ns) 0 (member_place place (codes "targetIds")) are) refl

gone_again : (root : Root) (name : DocName) (time : ℤ) (left : List ℕ) (place : List ℕ) → document_of root (document_text name) ≡ Ok name → IsTimeHeld time → AreSmall left
    → gone_at root (object (gone_members name time left)) place ≡ Ok (name, time, left)
unfolding gone_at
gone_again root name time [] place h t each = rw (h, t (member_place place (codes "readTime"))) refl
gone_again root name time (l ∷ ls) place h t each =
    rw (h, t (member_place place (codes "readTime")), numbers_again (l ∷ ls) 0 (member_place place (codes "removedTargetIds")) each) refl

name_again : (root : Root) (name : DocName) → IsDocumentOf root name → document_of root (document_text name) ≡ Ok name
name_again root name is = document_only root (document_text name) name is refl

-- ---- what is told

change_told : (root : Root) (ms : Members) (m : ListenMessage) (place : List ℕ) → target_change_at (object ms) (member_place place (codes "targetChange")) ≡ Ok m
    → listen_at root (with_one (codes "targetChange") (object ms)) place ≡ Ok m
unfolding listen_at
change_told root ms m place h = rw h refl

changed_told : (root : Root) (document : Document) (targets left : List ℕ) (place : List ℕ)
    → document_change_at root (object (changed_members document targets left)) (member_place place (codes "documentChange")) ≡ Ok (Changed document targets left)
    → listen_at root (listen_json (Changed document targets left)) place ≡ Ok (Changed document targets left)
unfolding listen_at
changed_told root document targets left place h = rw h refl

deleted_told : (root : Root) (name : DocName) (time : ℤ) (left : List ℕ) (place : List ℕ)
    → gone_at root (object (gone_members name time left)) (member_place place (codes "documentDelete")) ≡ Ok (name, time, left)
    → listen_at root (listen_json (Deleted name time left)) place ≡ Ok (Deleted name time left)
unfolding listen_at
deleted_told root name time left place h = rw h refl

removed_told : (root : Root) (name : DocName) (time : ℤ) (left : List ℕ) (place : List ℕ)
    → gone_at root (object (gone_members name time left)) (member_place place (codes "documentRemove")) ≡ Ok (name, time, left)
    → listen_at root (listen_json (Removed name time left)) place ≡ Ok (Removed name time left)
unfolding listen_at
removed_told root name time left place h = rw h refl

pub listen_again : (root : Root) (m : ListenMessage) (place : List ℕ) → IsListenHeld m → IsListenOf root m → listen_at root (listen_json m) place ≡ Ok m
listen_again root (Add targets) place held valid =
    change_told root (kind_members (codes "ADD") targets) (Add targets) place (add_again targets (member_place place (codes "targetChange")) valid)
listen_again root (Remove targets cause) place held valid =
    change_told root (with_cause cause (kind_members (codes "REMOVE") targets)) (Remove targets cause) place (remove_again targets cause (member_place place (codes "targetChange")) valid.0 valid.1)
listen_again root (Reset targets) place held valid =
    change_told root (kind_members (codes "RESET") targets) (Reset targets) place (reset_again targets (member_place place (codes "targetChange")) valid)
listen_again root (Current targets time token) place held valid =
    change_told root (with_moment time token (kind_members (codes "CURRENT") targets)) (Current targets time token) place
    (current_again targets time token (member_place place (codes "targetChange")) held.0 held.1 valid)
listen_again root (NoChange time token) place held valid =
    change_told root (with_moment time token no_members) (NoChange time token) place (no_change_again time token (member_place place (codes "targetChange")) held.0 held.1)
listen_again root (Changed document targets left) place held valid =
    let inside = member_place place (codes "documentChange") in
    changed_told root document targets left place (changed_again root document targets left inside (held.again root (member_place inside (codes "document")) valid.0) valid.1 valid.2)
listen_again root (Deleted name time left) place held valid =
    deleted_told root name time left place (gone_again root name time left (member_place place (codes "documentDelete")) (name_again root name valid.0) held valid.1)
listen_again root (Removed name time left) place held valid =
    removed_told root name time left place (gone_again root name time left (member_place place (codes "documentRemove")) (name_again root name valid.0) held valid.1)
