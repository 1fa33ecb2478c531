use Rattle.std.proofs.Common.{◌≡◌, ◌&&◌, true, false, option_map, string_bytes, bytes_eq, rules, sym, ap, ◌∙◌}
use Rattle.std.specs.Prelude.{not}
use Rattle.std.specs.Option.{option_or}
use Rattle.serde_json.specs.Find.{get_member}
use Rattle.serde_json.specs.View.{members_view, view as json}
use Rattle.fs_json.specs.Names.{snake_of}
use Rattle.fs_json.specs.Spellings.{second_at}
use Rattle.fs_json.proofs.Found.{first_here, first_later, first_no_second, found_first, kept_first, second_first, second_here, second_later}
use Rattle.fs_json.proofs.members.found_in.Goals as goal

pub loop-key-preserved-then-eq : goal.loop-key-preserved-then-eq
loop-key-preserved-then-eq c =
    let name = c.args.name.now in
    let key = string_bytes c.in-Some.key.now in
    let d = json c.in-Some.v.now in
    let rest = members_view c.next.new.self in
    let is : bytes_eq name key ≡ true = search rules in
    let here = first_here name key d rest is in
    let later = second_later name key d rest (first_no_second name key is) in (
      rw (c.loop-key.invariant.0, c.in-Some.ensures.steps, c.or-first.ensures) (ap (option_or (option_map (λ x. json x.now) c.loop-key.first)) here ∙ sym (found_first (λ x. json x.now) c.loop-key.first c.in-Some.v (get_member name rest))),
      (rw (c.loop-key.invariant.1.0, c.in-Some.ensures.steps) (ap (option_or (option_map (λ x. json x.1.now) c.loop-key.second)) later), c.loop-key.invariant.1.1),
    )

pub loop-key-preserved-then-is_second_spelling : goal.loop-key-preserved-then-is_second_spelling
loop-key-preserved-then-is_second_spelling c =
    let name = c.args.name.now in
    let key = string_bytes c.in-Some.key.now in
    let d = json c.in-Some.v.now in
    let rest = members_view c.next.new.self in
    let text = c.as_str-then-is_second_spelling.result in
    let isnt : bytes_eq name key ≡ false = search rules in
    let is : (bytes_eq (snake_of name) key && not (bytes_eq name key)) ≡ true = search rules in
    let here = second_here name key d rest is in
    let same : text.now ≡ snake_of name = c.as_str-then-is_second_spelling.ensures.value ∙ sym (second_first name key is) in (
      rw (c.loop-key.invariant.0, c.in-Some.ensures.steps) (ap (option_or (option_map (λ x. json x.now) c.loop-key.first)) (first_later name key d rest isnt)),
      (
        rw (c.loop-key.invariant.1.0, c.in-Some.ensures.steps, c.or-second.ensures) (ap (option_or (option_map (λ x. json x.1.now) c.loop-key.second)) here ∙ sym (found_first (λ x. json x.1.now) c.loop-key.second (text, c.in-Some.v) (second_at name rest))),
        rw c.or-second.ensures (kept_first (λ x. x.0.now ≡ snake_of name) c.loop-key.second (text, c.in-Some.v) c.loop-key.invariant.1.1 same),
      ),
    )

pub loop-key-preserved : goal.loop-key-preserved
loop-key-preserved c =
    let name = c.args.name.now in
    let key = string_bytes c.in-Some.key.now in
    let d = json c.in-Some.v.now in
    let rest = members_view c.next.new.self in
    let isnt : bytes_eq name key ≡ false = search rules in
    let none : (bytes_eq (snake_of name) key && not (bytes_eq name key)) ≡ false = search rules in (
      rw (c.loop-key.invariant.0, c.in-Some.ensures.steps) (ap (option_or (option_map (λ x. json x.now) c.loop-key.first)) (first_later name key d rest isnt)),
      (rw (c.loop-key.invariant.1.0, c.in-Some.ensures.steps) (ap (option_or (option_map (λ x. json x.1.now) c.loop-key.second)) (second_later name key d rest none)), c.loop-key.invariant.1.1),
    )
