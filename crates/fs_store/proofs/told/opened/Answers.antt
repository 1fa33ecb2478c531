use Rattle.std.proofs.Common.{◌≡◌, ℕ, zero, suc, take, Vec, Global, ◌+◌, subst, ◌++◌, ◌∷◌, List, [], Option, length, refl, sym, ap, ◌∙◌, arith}
use Rattle.std.specs.Option.{option_to_list}
use Rattle.std.specs.Prelude.{MatchOption}
use Rattle.std.specs.Vec.{vec_len}
use Rattle.fs_write.specs.declared.change.Change.{Change}
use Rattle.fs_write.specs.declared.timed_change.TimedChange.{TimedChange}
use Rattle.fs_store.specs.Told.{begun, with_change}
use Rattle.fs_store.specs.declared.noted.Noted.{Noted}
use Rattle.fs_store.proofs.Telling.{behind_another, behind_its_own}
use Rattle.fs_store.proofs.told.opened.Goals as goal
use Rattle.fs_store.proofs.told.opened.Goals.{in-Some+else-eq+in_ok-push, in_default}

pub returns-then-eq : goal.returns-then-eq
returns-then-eq c = λ change.
    let old = c.pop.ensures.items ∙ ap (λ (o : Option TimedChange). c.pop.new.self.items ++ option_to_list o) c.in-Some.is in
    sym (ap (λ cs. with_change cs c.args.noted.now change) old ∙ behind_its_own c.pop.new.self.items c.in-Some.last c.args.noted.now change (sym c.eq.ensures ∙ c.if-eq.true))

first_of : (cs : List TimedChange) (n : Noted) (change : Change) → length cs ≡ 0 → with_change cs n change ≡ begun n change ∷ []
first_of [] n change none = refl
first_of (c ∷ cs) n change none = absurd (omega (arith, none))

none_left : (cs ds : List TimedChange) (k : ℕ) → length cs ≡ 0 → ds ≡ take k cs → ds ≡ []
none_left [] ds zero none is = is
none_left [] ds (suc k) none is = is
none_left (c ∷ cs) ds k none is = absurd (omega (arith, none))

pub returns : goal.returns
returns c = λ change.
    let n = c.args.noted.now in
    let one : TimedChange = record { time = n.time; id = n.id; changes = c.new.result ++ change ∷ [] } in
    let begins : one ≡ begun n change = λ i. record { time = n.time; id = n.id; changes = c.new.ensures i ++ change ∷ [] } in
    elim c.match-pop.branch [
      | in-Some+else-eq+in_ok-push w ↦
          let old = c.pop.ensures.items ∙ ap (λ (o : Option TimedChange). c.pop.new.self.items ++ option_to_list o) w.in-Some.is in
          ap (λ (v : Vec TimedChange Global). v.items ++ one ∷ []) w.commits-is
          ∙ ap (λ cs. cs ++ one ∷ []) w.in_ok-push.ensures.items
          ∙ ap (λ x. (c.pop.new.self.items ++ w.in-Some.last ∷ []) ++ x ∷ []) begins
          ∙ sym (ap (λ cs. with_change cs n change) old ∙ behind_another c.pop.new.self.items w.in-Some.last n change (sym w.eq.ensures ∙ w.if-eq.false))
      | in_default w ↦
          let empty = subst (λ (o : Option TimedChange). MatchOption o ((vec_len c.args.commits.now ≡ 0) × (vec_len c.pop.new.self ≡ 0)) (λ _. vec_len c.pop.new.self + 1 ≡ vec_len c.args.commits.now)) w.in_default.is c.pop.ensures.cases in
          let none : length c.args.commits.now.items ≡ 0 = omega (arith, c.args.commits.now.ok, empty.0) in
          ap (λ (v : Vec TimedChange Global). v.items ++ one ∷ []) w.commits-is
          ∙ ap (λ cs. cs ++ one ∷ []) (none_left c.args.commits.now.items c.pop.new.self.items _ none c.pop.ensures.rest)
          ∙ ap (λ x. x ∷ []) begins
          ∙ sym (first_of c.args.commits.now.items n change none)
    ]
