-- Changes that go into the chains one after another.
use Rattle.std.proofs.Common.{◌≡◌, ℕ, ◌-◌, ◌<◌, ◌≤◌, ℤ, Bool, true, false, cond, List, [], ◌∷◌, ◌++◌, length, get_or, Option, Some, None, refl, sym, ap, ◌∙◌, subst, arith}
use Rattle.std.specs.Prelude.{IsTrue, unwrap_or}
use Rattle.std.specs.BTreeMap.{is_at}
use Rattle.std.specs.Cmp.{first_so, second_so}
use Rattle.std.specs.FinMap.{find, is_sorted}
use Rattle.std.specs.FinMap.Entries.{below_all}
use Rattle.std.specs.List.{All}
use Rattle.std.specs.Ordering.{eq_by_cmp}
use Rattle.std.specs.declared.cmp.Ordering.TheVariants.{Equal}
use Rattle.std.proofs.lemmas.Cmp.{eq_by_cmp_equiv, tied_itself}
use Rattle.std.proofs.lemmas.List.{get_or-map, get_or_default}
use Rattle.std.proofs.lemmas.List.Elements.{All-head, All-tail}
use Rattle.fs_path.specs.NameOrder.{name_cmp, name_cmp_total, name_is, name_itself}
use Rattle.fs_path.specs.declared.name.DocName.{DocName}
use Rattle.fs_value.proofs.Search.{find-tied}
use Rattle.fs_write.specs.Batch.{changes_by_name}
use Rattle.fs_write.specs.declared.change.Change.{Change}
use Rattle.fs_history.proofs.Names.{none_below}
use Rattle.fs_versions.specs.Chain.{extended}
use Rattle.fs_versions.specs.Chained.{Chained}
use Rattle.fs_versions.specs.Rising.{AreBefore}
use Rattle.fs_versions.specs.Room.{room_after}
use Rattle.fs_versions.specs.Sound.{Tree, found, chained, chained_in, chain_in, room_in, EndsBefore, HasChanged, NoLess, Puts, SameChains}

abbrev pub Rise : List Change → Type 0
Rise cs = IsTrue (is_sorted name_cmp (changes_by_name cs))

-- the change of a name among some
abbrev pub change_at : DocName → List Change → Option Change
change_at q cs = find name_cmp q (changes_by_name cs)

-- ---- names

turned : (name q : DocName) → eq_by_cmp name_cmp q name ≡ is_at (name_cmp name) q
turned name q = (eq_by_cmp_equiv name_cmp_total).symm q name

-- the first of changes whose names rise is that of its name, and none behind it is
first_at : (c : Change) (cs : List Change) → change_at c.name (c ∷ cs) ≡ Some c
first_at c cs = ap (λ b. cond b (Some c) (change_at c.name cs)) (name_itself c.name)

none_behind : (c : Change) (cs : List Change) → Rise (c ∷ cs) → change_at c.name cs ≡ None
none_behind c cs rise = none_below c.name (changes_by_name cs) (first_so _ (is_sorted name_cmp (changes_by_name cs)) rise)

-- a change is what its name finds
pub found_itself : (cs : List Change) (k : ℕ) (d : Change) → Rise cs → k < length cs → change_at (get_or cs k d).name cs ≡ Some (get_or cs k d)
found_itself cs k d rise within =
    let c = get_or cs k d in
    find-tied name_cmp (λ x. (x.name, x)) name_cmp_total c.name cs k (d.name, d) rise within
    (λ e. subst (λ x. name_cmp x.name c.name ≡ Equal) (get_or_default cs k d e within) (tied_itself name_cmp_total c.name))
    ∙ ap (λ (e : DocName × Change). Some e.1) (get_or-map (λ x. (x.name, x)) cs k d (d.name, d) within)

-- what holds of the names of all holds of each that has a change
of_next : (P : DocName → Type 0) (c : Change) (cs : List Change) (q : DocName) (d : Change) (b : Bool) → eq_by_cmp name_cmp q c.name ≡ b → P c.name → (change_at q cs ≡ Some d → P q) → cond b (Some c) (change_at q cs) ≡ Some d → P q
of_next P c cs q d true ties here more is = subst P (sym (name_is q c.name ties)) here
of_next P c cs q d false ties here more is = more is

pub of_names : (P : DocName → Type 0) (cs : List Change) → All (λ c. P c.name) cs → (q : DocName) (d : Change) → change_at q cs ≡ Some d → P q
of_names P [] all q d is = absurd (cc)
of_names P (c ∷ cs) all q d is =
    of_next P c cs q d (eq_by_cmp name_cmp q c.name) refl (All-head (λ c. P c.name) c cs all) (of_names P cs (All-tail (λ c. P c.name) c cs all) q d) is

-- ---- one place of a tree

put_there : (b : Bool) (value : Chained) (o : Option Chained) → chained (cond b (Some value) o) ≡ cond b value (chained o)
put_there true value o = refl
put_there false value o = refl

pub put_at : (old new : Tree) (name : DocName) (value : Chained) → Puts old new name value → (q : DocName) → chained_in q new ≡ cond (is_at (name_cmp name) q) value (chained_in q old)
put_at old new name value put q = ap chained (put q) ∙ put_there (is_at (name_cmp name) q) value (found q old)

-- a chain with the same versions, and room that isn't less
module _ (old new : Tree) (name : DocName) (value : Chained) (put : Puts old new name value) where
  same_next : value.versions ≡ chain_in name old → (q : DocName) (b : Bool) → is_at (name_cmp name) q ≡ b → (cond b value (chained_in q old)).versions ≡ chain_in q old
  same_next same q true ties = same ∙ ap (λ n. chain_in n old) (name_is name q ties)
  same_next same q false ties = refl

  pub same_chains : value.versions ≡ chain_in name old → SameChains old new
  same_chains same q = ap (λ (c : Chained). c.versions) (put_at old new name value put q) ∙ same_next same q (is_at (name_cmp name) q) refl

  less_next : room_in name old ≤ value.room → (q : DocName) (b : Bool) → is_at (name_cmp name) q ≡ b → room_in q old ≤ (cond b value (chained_in q old)).room
  less_next more q true ties = subst (λ n. room_in n old ≤ value.room) (name_is name q ties) more
  less_next more q false ties = omega arith

  pub no_less : room_in name old ≤ value.room → NoLess old new
  no_less more q = subst (λ (c : Chained). room_in q old ≤ c.room) (sym (put_at old new name value put q)) (less_next more q (is_at (name_cmp name) q) refl)

-- an empty chain that is put where none stands shows what stood there
pub chain_or : (o : Option Chained) (d : Chained) → d.versions ≡ [] → (unwrap_or o d).versions ≡ (chained o).versions
chain_or None d none = none
chain_or (Some c) d none = refl

-- ---- what is still to go in

-- a tree into which the first changes went, at a time, and some are left
pub record IsLeft (old now : Tree) (all rest : List Change) (time : ℤ) : Type 0 where
  pub chains : (q : DocName) → extended time (change_at q rest) (chain_in q now) ≡ extended time (change_at q all) (chain_in q old)
  pub rooms : (q : DocName) → room_after (change_at q rest) (room_in q now) ≡ room_after (change_at q all) (room_in q old)
  pub rise : Rise rest
  pub room : (q : DocName) (d : Change) → change_at q rest ≡ Some d → 1 ≤ room_in q now
  pub earlier : (q : DocName) → AreBefore (chain_in q old) time
  pub same : (q : DocName) (d : Change) → change_at q rest ≡ Some d → chain_in q now ≡ chain_in q old

pub left_first : (old : Tree) (all : List Change) (time : ℤ) → Rise all → All (λ c. 1 ≤ room_in c.name old) all → EndsBefore old time → IsLeft old old all all time
left_first old all time rise room earlier = record {
  chains = λ q. refl;
  rooms = λ q. refl;
  rise = rise;
  room = of_names (λ q. 1 ≤ room_in q old) all room;
  earlier = earlier;
  same = λ q d is. refl;
}

-- the version that a change leaves, with the room that it takes
abbrev pub put_for : Tree → Change → ℤ → Chained
put_for now c time = record { versions = chain_in c.name now ++ record { time = time; after = c.after } ∷ []; room = room_in c.name now - 1 }

module _ (old now new : Tree) (all : List Change) (c : Change) (rest : List Change) (time : ℤ) (left : IsLeft old now all (c ∷ rest) time) (put : Puts now new c.name (put_for now c time)) where
  at_next : (q : DocName) → chained_in q new ≡ cond (is_at (name_cmp c.name) q) (put_for now c time) (chained_in q now)
  at_next q = put_at now new c.name (put_for now c time) put q

  other_at : (q : DocName) (d : Change) (b : Bool) → is_at (name_cmp c.name) q ≡ b → change_at q rest ≡ Some d → b ≡ false
  other_at q d true ties is =
      let none = ap (λ n. change_at n rest) (sym (name_is c.name q ties)) ∙ none_behind c rest left.rise in
      absurd (cc)
  other_at q d false ties is = refl

  -- and what is at the others stays
  stays : (q : DocName) (d : Change) → change_at q rest ≡ Some d → (chained_in q new ≡ chained_in q now) × (change_at q (c ∷ rest) ≡ Some d)
  stays q d is =
      let other = other_at q d (is_at (name_cmp c.name) q) refl is in (
        at_next q ∙ ap (λ b. cond b (put_for now c time) (chained_in q now)) other,
        ap (λ b. cond b (Some c) (change_at q rest)) (turned c.name q ∙ other) ∙ is,
      )

  chains_at : (q : DocName) (b : Bool) → is_at (name_cmp c.name) q ≡ b
      → extended time (change_at q rest) (cond b (put_for now c time) (chained_in q now)).versions ≡ extended time (cond b (Some c) (change_at q rest)) (chain_in q now)
  chains_at q true ties =
      let same = name_is c.name q ties in
      ap (λ n. extended time (change_at n rest) (put_for now c time).versions) (sym same)
      ∙ ap (λ o. extended time o (put_for now c time).versions) (none_behind c rest left.rise)
      ∙ ap (λ n. extended time (Some c) (chain_in n now)) same
  chains_at q false ties = refl

  rooms_at : (q : DocName) (b : Bool) → is_at (name_cmp c.name) q ≡ b
      → room_after (change_at q rest) (cond b (put_for now c time) (chained_in q now)).room ≡ room_after (cond b (Some c) (change_at q rest)) (room_in q now)
  rooms_at q true ties =
      let same = name_is c.name q ties in
      ap (λ n. room_after (change_at n rest) (put_for now c time).room) (sym same)
      ∙ ap (λ o. room_after o (put_for now c time).room) (none_behind c rest left.rise)
      ∙ ap (λ n. room_after (Some c) (room_in n now)) same
  rooms_at q false ties = refl

  pub left_next : IsLeft old new all rest time
  left_next = record {
    chains = λ q.
        ap (λ (x : Chained). extended time (change_at q rest) x.versions) (at_next q)
        ∙ chains_at q (is_at (name_cmp c.name) q) refl
        ∙ ap (λ b. extended time (cond b (Some c) (change_at q rest)) (chain_in q now)) (sym (turned c.name q))
        ∙ left.chains q;
    rooms = λ q.
        ap (λ (x : Chained). room_after (change_at q rest) x.room) (at_next q)
        ∙ rooms_at q (is_at (name_cmp c.name) q) refl
        ∙ ap (λ b. room_after (cond b (Some c) (change_at q rest)) (room_in q now)) (sym (turned c.name q))
        ∙ left.rooms q;
    rise = second_so (below_all name_cmp c.name (changes_by_name rest)) _ left.rise;
    room = λ q d is. let s = stays q d is in subst (λ (x : Chained). 1 ≤ x.room) (sym s.0) (left.room q d s.1);
    earlier = left.earlier;
    same = λ q d is. let s = stays q d is in ap (λ (x : Chained). x.versions) s.0 ∙ left.same q d s.1;
  }

pub room_first : (old now : Tree) (all : List Change) (c : Change) (rest : List Change) (time : ℤ) → IsLeft old now all (c ∷ rest) time → 1 ≤ room_in c.name now
room_first old now all c rest time left = left.room c.name c (first_at c rest)

pub before_first : (old now : Tree) (all : List Change) (c : Change) (rest : List Change) (time : ℤ) → IsLeft old now all (c ∷ rest) time → AreBefore (chain_in c.name now) time
before_first old now all c rest time left = subst (λ vs. AreBefore vs time) (sym (left.same c.name c (first_at c rest))) (left.earlier c.name)

-- ---- the one change of a batch

module _ (old new : Tree) (c : Change) (time : ℤ) (value : Chained) (put : Puts old new c.name value) where
  one_next : value.versions ≡ chain_in c.name old ++ record { time = time; after = c.after } ∷ [] → (q : DocName) (b : Bool) → is_at (name_cmp c.name) q ≡ b
      → (cond b value (chained_in q old)).versions ≡ extended time (cond b (Some c) None) (chain_in q old)
  one_next made q true ties = made ∙ ap (λ n. extended time (Some c) (chain_in n old)) (name_is c.name q ties)
  one_next made q false ties = refl

  pub one_changed : value.versions ≡ chain_in c.name old ++ record { time = time; after = c.after } ∷ [] → HasChanged old new (c ∷ []) time
  one_changed made q =
      ap (λ (x : Chained). x.versions) (put_at old new c.name value put q)
      ∙ one_next made q (is_at (name_cmp c.name) q) refl
      ∙ ap (λ b. extended time (cond b (Some c) None) (chain_in q old)) (sym (turned c.name q))

-- it rises, as there is no other
pub one_rises : (c : Change) → Rise (c ∷ [])
one_rises c = refl
