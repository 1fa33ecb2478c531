use Rattle.std.proofs.Common.{◌≡◌, Bor, Some, Err, option_map, refl, rules, ap, ◌∙◌}
use Rattle.serde_json.specs.View.{members_view, view as json}
use Rattle.serde_json.specs.declared.value.Value.{Value}
use Rattle.serde_json.proofs.Views.{view-Object}
use Rattle.fs_path.specs.Place.{member_place}
use Rattle.fs_path.specs.Way.{place_of}
use Rattle.fs_path.specs.declared.place.Rule.TheVariants.{G}
use Rattle.fs_json.specs.Members.{given_at, member_at, one_spelling}
use Rattle.fs_json.specs.Names.{snake_of}
use Rattle.fs_json.specs.Spellings.{second_given}
use Rattle.fs_json.specs.declared.bad.Bad.TheVariants.{At}
use Rattle.fs_json.proofs.Found.{by_spellings}
use Rattle.fs_json.proofs.Readings.{told}
use Rattle.fs_json.proofs.members.member.Goals as goal

pub returns-in-Some-Some : goal.returns-in-Some-Some
returns-in-Some-Some c =
    let name = c.args.name.now in
    let place = place_of c.args.way.now in
    let ms = members_view c.in-Object.members.entries in
    let first : given_at name ms ≡ Some (json c.in-Some-Some.field-0-0.now) = search rules in
    let second : second_given name ms ≡ Some (json c.in-Some-Some.field-0-1-1.now) = search rules in
    let key : c.in-Some-Some.key.now ≡ snake_of name = search rules in
    let there : place_of c.member.result ≡ member_place place (snake_of name) = c.member.ensures ∙ ap (member_place place) key in
    let two : one_spelling (member_place place (snake_of name)) (given_at name ms) (second_given name ms) ≡ Err (At G (place_of c.member.result)) = rw (first, second, there) refl in
    let reading : member_at name (json c.args.v.now) place ≡ Err (At G (place_of c.member.result)) =
    ap (λ v. member_at name (json v) place) c.in-Object.is ∙ ap (λ d. member_at name d place) (view-Object c.in-Object.members) ∙ by_spellings name ms place ∙ two in
    told (λ found. option_map {T = Bor Value} (λ x. json x.now) found) G (place_of c.member.result) c.at.result (member_at name (json c.args.v.now) place) c.at.ensures reading
