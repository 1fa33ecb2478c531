-- Room for commits, from room for the changes of each.
use Rattle.std.proofs.Common.{◌≡◌, ℕ, ◌+◌, ◌<◌, ◌≤◌, List, [], ◌∷◌, ◌++◌, length, get_or, take, Option, Some, None, refl, sym, ap, ◌∙◌, arith}
use Rattle.std.proofs.lemmas.List.{take_more}
use Rattle.std.specs.Prelude.{cond, is_some}
use Rattle.std.specs.List.{All}
use Rattle.std.proofs.lemmas.List.Elements.{All-head, All-tail}
use Rattle.fs_path.specs.declared.name.DocName.{DocName}
use Rattle.fs_write.specs.declared.change.Change.{Change}
use Rattle.fs_write.specs.declared.timed_change.TimedChange.{TimedChange}
use Rattle.fs_versions.proofs.TreeLaws.{change_at, of_names}
use Rattle.fs_versions.specs.Room.{HasRoom, Room, room_of}
use Rattle.fs_store.specs.Room.{HasRoomFor, change_count, times_changed}

-- where each name of each commit has room for so many versions, no name wants more that isn't changed more often
next_enough : (o : Option Change) (n times room : ℕ) → cond (is_some o) 1 0 + times ≤ n → ((d : Change) → o ≡ Some d → n ≤ room) → (times ≤ n → times ≤ room) → cond (is_some o) 1 0 + times ≤ room
next_enough None n times room few has more = let m = more (omega arith) in omega arith
next_enough (Some d) n times room few has more = let h = has d refl in omega arith

pub enough : (room : Room) (n : ℕ) (cs : List TimedChange) (q : DocName) → All (λ c. HasRoom room n c.changes) cs → times_changed q cs ≤ n → times_changed q cs ≤ room_of room q
enough room n [] q has within = omega arith
enough room n (c ∷ cs) q has within =
    next_enough (change_at q c.changes) n (times_changed q cs) (room_of room q) within
    (of_names (λ q. n ≤ room_of room q) c.changes (All-head (λ (c : TimedChange). HasRoom room n c.changes) c cs has) q)
    (enough room n cs q (All-tail (λ (c : TimedChange). HasRoom room n c.changes) c cs has))

-- one commit more is counted
counted-append : (cs ds : List TimedChange) → change_count (cs ++ ds) ≡ change_count cs + change_count ds
counted-append [] ds = omega arith
counted-append (c ∷ cs) ds = let rest = counted-append cs ds in omega arith

pub counted_more : (cs : List TimedChange) (i : ℕ) (c : TimedChange) → i < length cs → c ≡ get_or cs i c → change_count (take (i + 1) cs) ≡ change_count (take i cs) + length c.changes
counted_more cs i c within is =
    let last : change_count (c ∷ []) ≡ length c.changes = omega arith in
    ap change_count (take_more cs i c within ∙ ap (λ (x : TimedChange). take i cs ++ x ∷ []) (sym is))
    ∙ counted-append (take i cs) (c ∷ [])
    ∙ ap (λ n. change_count (take i cs) + n) last

-- no name is changed more often than there are commits
next_few : (o : Option Change) (times count : ℕ) → times ≤ count → cond (is_some o) 1 0 + times ≤ count + 1
next_few None times count few = omega arith
next_few (Some d) times count few = omega arith

few : (q : DocName) (cs : List TimedChange) → times_changed q cs ≤ length cs
few q [] = omega arith
few q (c ∷ cs) = let next = next_few (change_at q c.changes) (times_changed q cs) (length cs) (few q cs) in omega arith

pub room_for_all : (room : Room) (cs : List TimedChange) → All (λ c. HasRoom room (length cs) c.changes) cs → HasRoomFor room cs
room_for_all room cs has q = enough room (length cs) cs q has (few q cs)
