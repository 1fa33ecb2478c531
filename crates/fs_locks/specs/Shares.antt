-- What each id holds shared: what it has read, by rising ids, and for one id in the order of its reads. After 5 has read the
-- document c/a, 2 the collection x below it, and 2 the document c/b, that is
--     (2, collection x below c/a ∷ c/b ∷ []) ∷ (5, c/a ∷ []) ∷ []
-- and 2 holds what c/a/x/b touches, and 5 doesn't.
-- (Cloud Firestore documentation, "Transaction serializability and isolation".)
use Rattle.std.specs.Prelude.{ℕ, ◌-◌, Bool, List, [], ◌∷◌, ◌++◌, length, take, unwrap_or}
use Rattle.std.specs.BTreeMap.{insert_entry, is_at}
use Rattle.std.specs.Coded.{Coded, coded_list, coded×, coded_ℕ}
use Rattle.std.specs.List.{list_any}
use Rattle.std.specs.Map.{lookup, remove_entry, set_value}
use Rattle.std.specs.Ordering.{nat_cmp}
use Rattle.fs_path.specs.NameOrder.{name_eq}
use Rattle.fs_path.specs.Scope.{covers}
use Rattle.fs_path.specs.declared.name.DocName.{DocName}
use Rattle.fs_locks.specs.contracts.held.Held as held
use Rattle.fs_locks.specs.declared.held.Held.{Held}
use Rattle.fs_locks.specs.declared.held.Held.TheVariants.{Name, Scope}

-- the ids that hold something, with what they hold
abbrev pub Shares : Type 0
Shares = List (ℕ × List Held)

abbrev pub shares_code : Coded Shares
shares_code = coded_list (coded× coded_ℕ (coded_list held.the_row.coded))

-- what an id holds
abbrev pub shared_by : ℕ → Shares → List Held
shared_by i shares = unwrap_or (lookup (is_at (nat_cmp i)) shares) []

-- a name touches what is held: it is the held name, or the held scope covers it
abbrev pub is_touched : Held → DocName → Bool
is_touched (Name m) n = name_eq n m
is_touched (Scope scope) n = covers scope n

-- an id has a shared hold that the name touches
abbrev pub is_shared : Shares → ℕ → DocName → Bool
is_shared shares i n = list_any (λ h. is_touched h n) (shared_by i shares)

-- an id holds one thing more, behind what it holds
abbrev pub with_share : Shares → ℕ → Held → Shares
with_share shares id h = insert_entry nat_cmp shares id (shared_by id shares ++ h ∷ [])

-- an id holds nothing
abbrev pub without_shares : Shares → ℕ → Shares
without_shares shares id = remove_entry (is_at (nat_cmp id)) shares

-- an id that holds something holds this instead; where this is nothing, it stands here no more
abbrev pub left_with : Shares → ℕ → List Held → Shares
left_with shares id [] = without_shares shares id
left_with shares id (h ∷ hs) = set_value (is_at (nat_cmp id)) shares (h ∷ hs)

-- what an id came to hold last is taken back
abbrev pub without_last_share : Shares → ℕ → Shares
without_last_share shares id = left_with shares id (take (length (shared_by id shares) - 1) (shared_by id shares))
