-- What always holds of a board holds after each of its calls.
use Rattle.std.proofs.Common.{◌≡◌, ℕ, ℤ, ◌<ℤ◌, ◌≤ℤ◌, Bool, true, false, cond, List, [], ◌∷◌, ◌++◌, Option, Some, None, refl, sym, ap, ◌∙◌, subst, arith}
use Rattle.std.specs.Prelude.{◌==◌}
use Rattle.std.specs.BTreeMap.{is_at}
use Rattle.std.specs.List.{AllByRecursion}
use Rattle.std.specs.Map.{lookup}
use Rattle.std.specs.Ordering.{nat_cmp}
use Rattle.std.proofs.lemmas.Bool.{eqb-true, eq-eqb}
use Rattle.std.proofs.lemmas.Int.{ints}
use Rattle.fs_time.specs.Moment.{first_moment}
use Rattle.fs_board.specs.Board.{Commit, HasNo, time_in, accepted_with, without}
use Rattle.fs_board.specs.Held.{IsKept}
use Rattle.fs_board.specs.Rising.{RiseTo, Differ}
use Rattle.fs_board.proofs.Keys.{id_at, other_id}

pub not_there : (b : Bool) (time : ℤ) (rest : Option ℤ) → cond b (Some time) rest ≡ None → b ≡ false
not_there true time rest e = absurd (cc)
not_there false time rest e = refl

pub not_behind : (b : Bool) (time : ℤ) (rest : Option ℤ) → cond b (Some time) rest ≡ None → rest ≡ None
not_behind true time rest e = absurd (cc)
not_behind false time rest e = e

swapped : (b here : Bool) (x new rest : Option ℤ) → (b ≡ true → here ≡ false) → cond b x (cond here new rest) ≡ cond here new (cond b x rest)
swapped true here x new rest apart = ap (λ h. cond h new x) (sym (apart refl))
swapped false here x new rest apart = refl

either_way : (b : Bool) (x : Option ℤ) → x ≡ cond b x x
either_way true x = refl
either_way false x = refl

-- the entries have another time at an id, or none
abbrev pub Puts : List (ℕ × ℤ) → List (ℕ × ℤ) → ℕ → Option ℤ → Type 0
Puts old new id time = (q : ℕ) → lookup (is_at (nat_cmp q)) new ≡ cond (is_at (nat_cmp id) q) time (lookup (is_at (nat_cmp q)) old)

back_next : (times : List (ℕ × ℤ)) (id q : ℕ) (time : ℤ) (b : Bool) → (id == q) ≡ b → lookup (is_at (nat_cmp id)) times ≡ None → cond b None (cond b (Some time) (lookup (is_at (nat_cmp q)) times)) ≡ lookup (is_at (nat_cmp q)) times
back_next times id q time true is none = sym (subst (λ n. lookup (is_at (nat_cmp n)) times ≡ None) (eqb-true id q is) none)
back_next times id q time false is none = refl

module _ {A B : Type 0} where
  -- ---- the clock

  rise_higher : (cs : List (Commit A B)) (to high : ℤ) → to ≤ℤ high → RiseTo to cs → RiseTo high cs
  rise_higher [] to high higher rise = tt
  rise_higher (c ∷ cs) to high higher rise = let first = rise.0 in (omega (arith, ints), rise.1, rise_higher cs to high higher rise.2)

  pub kept_higher : (cs : List (Commit A B)) (times : List (ℕ × ℤ)) (last high : ℤ) → last ≤ℤ high → IsKept cs times last → IsKept cs times high
  kept_higher cs times last high higher kept =
      record { rise = rise_higher cs last high higher kept.rise; differ = kept.differ; stand = kept.stand; late = kept.late }

  -- ---- one more behind

  all_more : (P : Commit A B → Type 0) (cs : List (Commit A B)) (c : Commit A B) → AllByRecursion P cs → P c → AllByRecursion P (cs ++ c ∷ [])
  all_more P [] c all it = (it, tt)
  all_more P (d ∷ cs) c all it = (all.0, all_more P cs c all.1 it)

  rise_more : (cs : List (Commit A B)) (c : Commit A B) (last : ℤ) → last <ℤ c.time → RiseTo last cs → RiseTo c.time (cs ++ c ∷ [])
  rise_more [] c last later rise = (omega (arith, ints), tt, tt)
  rise_more (d ∷ cs) c last later rise =
      let first = rise.0 in
      (omega (arith, ints), all_more (λ e. d.time <ℤ e.time) cs c rise.1 (omega (arith, ints)), rise_more cs c last later rise.2)

  time_more : (cs : List (Commit A B)) (c : Commit A B) (q : ℕ) → HasNo c.id cs → time_in q (cs ++ c ∷ []) ≡ cond (c.id == q) (Some c.time) (time_in q cs)
  time_more [] c q none = refl
  time_more (d ∷ cs) c q none =
      ap (cond (d.id == q) (Some d.time)) (time_more cs c q (not_behind (d.id == c.id) d.time (time_in c.id cs) none))
      ∙ swapped (d.id == q) (c.id == q) (Some d.time) (Some c.time) (time_in q cs) (other_id d.id q c.id (not_there (d.id == c.id) d.time (time_in c.id cs) none))

  differ_more : (cs : List (Commit A B)) (c : Commit A B) → HasNo c.id cs → Differ cs → Differ (cs ++ c ∷ [])
  differ_more [] c none differ = (refl, tt)
  differ_more (d ∷ cs) c none differ =
      let apart = not_there (d.id == c.id) d.time (time_in c.id cs) none in (
        time_more cs c d.id (not_behind (d.id == c.id) d.time (time_in c.id cs) none)
            ∙ ap (λ b. cond b (Some c.time) (time_in d.id cs)) (other_id d.id d.id c.id apart (eq-eqb d.id d.id refl))
            ∙ differ.0,
        differ_more cs c (not_behind (d.id == c.id) d.time (time_in c.id cs) none) differ.1,
      )

  pub kept_prepared : (cs : List (Commit A B)) (times new : List (ℕ × ℤ)) (last : ℤ) (c : Commit A B) → last <ℤ c.time → first_moment <ℤ c.time → HasNo c.id cs → Puts times new c.id (Some c.time)
      → IsKept cs times last → IsKept (cs ++ c ∷ []) new c.time
  kept_prepared cs times new last c later late none puts kept = record {
    rise = rise_more cs c last later kept.rise;
    differ = differ_more cs c none kept.differ;
    stand = λ q. puts q ∙ ap (cond (is_at (nat_cmp c.id) q) (Some c.time)) (kept.stand q) ∙ ap (λ b. cond b (Some c.time) (time_in q cs)) (id_at c.id q) ∙ sym (time_more cs c q none);
    late = all_more (λ d. first_moment <ℤ d.time) cs c kept.late late;
  }

  -- ---- a commit is accepted

  all_accepted_next : (P : ℤ → Type 0) (c : Commit A B) (cs more : List (Commit A B)) (batch : B) (b : Bool) → P c.time → AllByRecursion (λ d. P d.time) cs → AllByRecursion (λ d. P d.time) more
      → AllByRecursion (λ d. P d.time) (cond b (record c { batch = Some batch } ∷ cs) (c ∷ more))
  all_accepted_next P c cs more batch true first rest all = (first, rest)
  all_accepted_next P c cs more batch false first rest all = (first, all)

  all_accepted : (P : ℤ → Type 0) (cs : List (Commit A B)) (id : ℕ) (batch : B) → AllByRecursion (λ d. P d.time) cs → AllByRecursion (λ d. P d.time) (accepted_with id batch cs)
  all_accepted P [] id batch all = tt
  all_accepted P (c ∷ cs) id batch all = all_accepted_next P c cs (accepted_with id batch cs) batch (c.id == id) all.0 all.1 (all_accepted P cs id batch all.1)

  rise_accepted_next : (c : Commit A B) (cs more : List (Commit A B)) (batch : B) (last : ℤ) (b : Bool) → RiseTo last (c ∷ cs) → RiseTo last (c ∷ more) → RiseTo last (cond b (record c { batch = Some batch } ∷ cs) (c ∷ more))
  rise_accepted_next c cs more batch last true rise all = rise
  rise_accepted_next c cs more batch last false rise all = all

  rise_accepted : (cs : List (Commit A B)) (id : ℕ) (batch : B) (last : ℤ) → RiseTo last cs → RiseTo last (accepted_with id batch cs)
  rise_accepted [] id batch last rise = tt
  rise_accepted (c ∷ cs) id batch last rise =
      rise_accepted_next c cs (accepted_with id batch cs) batch last (c.id == id) rise (rise.0, all_accepted (λ t. c.time <ℤ t) cs id batch rise.1, rise_accepted cs id batch last rise.2)

  time_accepted_next : (c : Commit A B) (cs more : List (Commit A B)) (batch : B) (q : ℕ) (b : Bool) → time_in q more ≡ time_in q cs → time_in q (cond b (record c { batch = Some batch } ∷ cs) (c ∷ more)) ≡ time_in q (c ∷ cs)
  time_accepted_next c cs more batch q true same = refl
  time_accepted_next c cs more batch q false same = ap (cond (c.id == q) (Some c.time)) same

  time_accepted : (cs : List (Commit A B)) (id : ℕ) (batch : B) (q : ℕ) → time_in q (accepted_with id batch cs) ≡ time_in q cs
  time_accepted [] id batch q = refl
  time_accepted (c ∷ cs) id batch q = time_accepted_next c cs (accepted_with id batch cs) batch q (c.id == id) (time_accepted cs id batch q)

  differ_accepted_next : (c : Commit A B) (cs more : List (Commit A B)) (batch : B) (b : Bool) → Differ (c ∷ cs) → Differ (c ∷ more) → Differ (cond b (record c { batch = Some batch } ∷ cs) (c ∷ more))
  differ_accepted_next c cs more batch true differ all = differ
  differ_accepted_next c cs more batch false differ all = all

  differ_accepted : (cs : List (Commit A B)) (id : ℕ) (batch : B) → Differ cs → Differ (accepted_with id batch cs)
  differ_accepted [] id batch differ = tt
  differ_accepted (c ∷ cs) id batch differ =
      differ_accepted_next c cs (accepted_with id batch cs) batch (c.id == id) differ (time_accepted cs id batch c.id ∙ differ.0, differ_accepted cs id batch differ.1)

  pub kept_accepted : (cs : List (Commit A B)) (times : List (ℕ × ℤ)) (last : ℤ) (id : ℕ) (batch : B) → IsKept cs times last → IsKept (accepted_with id batch cs) times last
  kept_accepted cs times last id batch kept = record {
    rise = rise_accepted cs id batch last kept.rise;
    differ = differ_accepted cs id batch kept.differ;
    stand = λ q. kept.stand q ∙ sym (time_accepted cs id batch q);
    late = all_accepted (λ t. first_moment <ℤ t) cs id batch kept.late;
  }

  -- ---- a commit is gone

  all_without_next : (P : Commit A B → Type 0) (c : Commit A B) (cs more : List (Commit A B)) (b : Bool) → P c → AllByRecursion P cs → AllByRecursion P more → AllByRecursion P (cond b cs (c ∷ more))
  all_without_next P c cs more true first rest all = rest
  all_without_next P c cs more false first rest all = (first, all)

  all_without : (P : Commit A B → Type 0) (cs : List (Commit A B)) (id : ℕ) → AllByRecursion P cs → AllByRecursion P (without id cs)
  all_without P [] id all = tt
  all_without P (c ∷ cs) id all = all_without_next P c cs (without id cs) (c.id == id) all.0 all.1 (all_without P cs id all.1)

  rise_without_next : (c : Commit A B) (cs more : List (Commit A B)) (last : ℤ) (b : Bool) → RiseTo last cs → RiseTo last (c ∷ more) → RiseTo last (cond b cs (c ∷ more))
  rise_without_next c cs more last true rest all = rest
  rise_without_next c cs more last false rest all = all

  rise_without : (cs : List (Commit A B)) (id : ℕ) (last : ℤ) → RiseTo last cs → RiseTo last (without id cs)
  rise_without [] id last rise = tt
  rise_without (c ∷ cs) id last rise =
      rise_without_next c cs (without id cs) last (c.id == id) rise.2 (rise.0, all_without (λ d. c.time <ℤ d.time) cs id rise.1, rise_without cs id last rise.2)

  -- of the first one
  time_behind_next : (c : Commit A B) (cs : List (Commit A B)) (q : ℕ) (b : Bool) → (c.id == q) ≡ b → HasNo c.id cs → time_in q cs ≡ cond b None (cond b (Some c.time) (time_in q cs))
  time_behind_next c cs q true is none = subst (λ id. time_in id cs ≡ None) (eqb-true c.id q is) none
  time_behind_next c cs q false is none = refl

  time_behind : (c : Commit A B) (cs : List (Commit A B)) (q : ℕ) → HasNo c.id cs → time_in q cs ≡ cond (c.id == q) None (time_in q (c ∷ cs))
  time_behind c cs q none = time_behind_next c cs q (c.id == q) refl none

  time_without_next : (c : Commit A B) (cs : List (Commit A B)) (id q : ℕ) (b : Bool) → (c.id == id) ≡ b → HasNo c.id cs → time_in q (without id cs) ≡ cond (id == q) None (time_in q cs)
      → time_in q (cond b cs (c ∷ without id cs)) ≡ cond (id == q) None (time_in q (c ∷ cs))
  time_without_next c cs id q true is none more = subst (λ n. time_in q cs ≡ cond (n == q) None (time_in q (c ∷ cs))) (eqb-true c.id id is) (time_behind c cs q none)
  time_without_next c cs id q false is none more =
      ap (cond (c.id == q) (Some c.time)) more ∙ swapped (c.id == q) (id == q) (Some c.time) None (time_in q cs) (other_id c.id q id is)

  time_without : (cs : List (Commit A B)) (id q : ℕ) → Differ cs → time_in q (without id cs) ≡ cond (id == q) None (time_in q cs)
  time_without [] id q differ = either_way (id == q) None
  time_without (c ∷ cs) id q differ = time_without_next c cs id q (c.id == id) refl differ.0 (time_without cs id q differ.1)

  differ_without_next : (c : Commit A B) (cs more : List (Commit A B)) (b : Bool) → Differ cs → Differ (c ∷ more) → Differ (cond b cs (c ∷ more))
  differ_without_next c cs more true rest all = rest
  differ_without_next c cs more false rest all = all

  differ_without : (cs : List (Commit A B)) (id : ℕ) → Differ cs → Differ (without id cs)
  differ_without [] id differ = tt
  differ_without (c ∷ cs) id differ =
      differ_without_next c cs (without id cs) (c.id == id) differ.1
      (time_without cs id c.id differ.1 ∙ ap (cond (id == c.id) None) differ.0 ∙ sym (either_way (id == c.id) None), differ_without cs id differ.1)

  pub kept_without : (cs : List (Commit A B)) (times new : List (ℕ × ℤ)) (last : ℤ) (id : ℕ) → Puts times new id None → IsKept cs times last → IsKept (without id cs) new last
  kept_without cs times new last id puts kept = record {
    rise = rise_without cs id last kept.rise;
    differ = differ_without cs id kept.differ;
    stand = λ q. puts q ∙ ap (cond (is_at (nat_cmp id) q) None) (kept.stand q) ∙ ap (λ b. cond b None (time_in q cs)) (id_at id q) ∙ sym (time_without cs id q kept.differ);
    late = all_without (λ d. first_moment <ℤ d.time) cs id kept.late;
  }

  pub kept_behind : (c : Commit A B) (cs : List (Commit A B)) (times new : List (ℕ × ℤ)) (last : ℤ) → Puts times new c.id None → IsKept (c ∷ cs) times last → IsKept cs new last
  kept_behind c cs times new last puts kept = record {
    rise = kept.rise.2;
    differ = kept.differ.1;
    stand = λ q. puts q ∙ ap (cond (is_at (nat_cmp c.id) q) None) (kept.stand q) ∙ ap (λ b. cond b None (time_in q (c ∷ cs))) (id_at c.id q) ∙ sym (time_behind c cs q kept.differ.0);
    late = kept.late.1;
  }

  -- ---- what was put in for a commit is taken back

  pub kept_back : (cs : List (Commit A B)) (times put new : List (ℕ × ℤ)) (last : ℤ) (id : ℕ) (time : ℤ) → HasNo id cs → Puts times put id (Some time) → Puts put new id None → IsKept cs times last → IsKept cs new last
  kept_back cs times put new last id time none puts takes kept = record {
    rise = kept.rise;
    differ = kept.differ;
    stand = λ q. takes q ∙ ap (cond (is_at (nat_cmp id) q) None) (puts q)
        ∙ ap (λ b. cond b None (cond b (Some time) (lookup (is_at (nat_cmp q)) times))) (id_at id q)
        ∙ back_next times id q time (id == q) refl (kept.stand id ∙ none) ∙ kept.stand q;
    late = kept.late;
  }
