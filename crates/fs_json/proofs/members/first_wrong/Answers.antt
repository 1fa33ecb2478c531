use Rattle.std.proofs.Common.{◌≡◌, List, ℕ, true, false, Some, ◌++◌, map, string_bytes, refl, rules, sym, ap, subst, ◌∙◌, true≢false}
use Rattle.std.specs.Bool.{OnFalse}
use Rattle.std.specs.List.{list_any}
use Rattle.std.specs.Option.{option_or}
use Rattle.serde_json.specs.Data.{Members}
use Rattle.serde_json.specs.View.{members_view, view as json}
use Rattle.fs_json.specs.Members.{first_twice, first_unknown, is_second}
use Rattle.fs_json.specs.Names.{spells}
use Rattle.fs_json.proofs.Spellings.{not_twice, on_false, where_false}
use Rattle.fs_json.proofs.members.first_wrong.Goals as goal

pub returns-then-not-is_known_of_two : goal.returns-then-not-is_known_of_two
returns-then-not-is_known_of_two c =
    let names = map (λ n. n.now) c.args.these.now ++ map (λ n. n.now) c.args.those.now in
    let all = members_view c.args.members.now.entries in
    let unknown : list_any (λ name. spells name (string_bytes c.in-Some.key.now)) names ≡ false = search rules in
    let first : Some c.as_str-then-not-is_known_of_two.result.now ≡ first_unknown names all =
    rw (c.loop-key.invariant.0, c.in-Some.ensures.steps, unknown) (ap Some c.as_str-then-not-is_known_of_two.ensures.value) in
    ap (λ o. option_or o (first_twice names all all)) first

pub loop-key-preserved-then-may_be_twice : goal.loop-key-preserved-then-may_be_twice
loop-key-preserved-then-may_be_twice c =
    let names = map (λ n. n.now) c.args.these.now ++ map (λ n. n.now) c.args.those.now in
    let known : list_any (λ name. spells name (string_bytes c.in-Some.key.now)) names ≡ true = search rules in
    (rw (c.loop-key.invariant.0, c.in-Some.ensures.steps, known) refl, on_false c.loop-key.may_be_twice (λ isnt. absurd (true≢false (sym c.if-may_be_twice.true ∙ isnt))))

pub loop-key-preserved : goal.loop-key-preserved
loop-key-preserved c =
    let names = map (λ n. n.now) c.args.these.now ++ map (λ n. n.now) c.args.those.now in
    let all = members_view c.args.members.now.entries in
    let key = string_bytes c.in-Some.key.now in
    let rest = members_view c.next.new.self in
    let known : list_any (λ name. spells name key) names ≡ true = search rules in
    let before : first_twice names all all ≡ first_twice names all (members_view c.loop-key.key-iterator) =
    subst (λ b. OnFalse b (first_twice names all all ≡ first_twice names all (members_view c.loop-key.key-iterator))) c.if-may_be_twice.false c.loop-key.invariant.1 in
    let more = λ (none : (names : List (List ℕ)) (all : Members) → is_second names all c.as_str-else-may_be_twice.result.now ≡ false).
    before ∙ ap (λ es. first_twice names all (members_view es)) c.in-Some.ensures.steps
    ∙ not_twice names all key (json c.in-Some.field-0-1.now) rest (subst (λ k. is_second names all k ≡ false) c.as_str-else-may_be_twice.ensures.value (none names all)) in
    (rw (c.loop-key.invariant.0, c.in-Some.ensures.steps, known) refl, where_false c.may_be_second-may_be_twice.result c.may_be_second-may_be_twice.ensures more)
