-- How a query that is listened to is read, once its parent is, and what is read of a request whose target is permitted.
use Rattle.std.proofs.Common.{◌≡◌, ℕ, List, [], ◌∷◌, Option, Result, Ok, Err, codes, refl, ap}
use Rattle.serde_json.specs.Data.{Data}
use Rattle.fs_path.specs.Place.{member_place}
use Rattle.fs_path.specs.declared.name.Root.{Root}
use Rattle.fs_json.specs.Answer.{Gives, made, ◌>>=◌}
use Rattle.fs_json.specs.Members.{only_at, required_at, unbuilt_at}
use Rattle.fs_json.specs.declared.bad.Bad.{Bad}
use Rattle.fs_json.specs.declared.bad.Bad.TheVariants.{At, Method, Memory}
use Rattle.fs_query.specs.declared.target.Target.{Target}
use Rattle.fs_query.specs.declared.target.Target.TheVariants as target
use Rattle.fs_queryjson.specs.Query.{listened_at}
use Rattle.fs_rpc.specs.ReadTargets.{expected_in, query_target_at, query_target_members, token_in}
use Rattle.fs_rpc.specs.RequestSteps.{added_at, beside_target_at}
use Rattle.fs_rpc.specs.Requests.{parent_at}
use Rattle.fs_request.specs.declared.request.Request.TheVariants.{AddTarget}

pub query_steps : (root : Root) (d name s : Data) (place : List ℕ) (parent : List (List ℕ)) → only_at query_target_members d place ≡ Ok tt → required_at (codes "parent") d place ≡ Ok name
    → parent_at root name (member_place place (codes "parent")) ≡ Ok parent → required_at (codes "structuredQuery") d place ≡ Ok s
    → query_target_at root d place ≡ made target.Query (listened_at parent s (member_place place (codes "structuredQuery")))
unfolding query_target_at
query_steps root d name s place parent known named is there = rw (known, named, is, there) refl

-- what is answered where something was read is answered where something is made of it
pub made_gives : {X Y Z : Type 0} (make : Y → Z) (y : Y) (answer : Result X Bad) (reading : Result Y Bad) → Gives (λ u. y) answer reading → Gives (λ u. make y) answer (made make reading)
made_gives make y (Ok x) reading gives = ap (made make) gives
made_gives make y (Err (At rule place)) reading gives = ap (made make) gives
made_gives make y (Err (Method name)) reading gives = ap (made make) gives
made_gives make y (Err (Memory e)) reading gives = record {}

-- what is made of the parts that stand beside a target is what is read of them one after another
made_of_parts : {A B C D : Type 0} (make : Root → A → D) (root : Root) (token : Result A Bad) (count : Result B Bad) (unbuilt : Result C Bad)
    → made (λ (b : Root × A). make b.0 b.1) (token >>= λ t. made (λ r. (r, t)) (count >>= λ _. unbuilt >>= λ _. Ok root))
    ≡ (token >>= λ t. count >>= λ _. unbuilt >>= λ _. Ok (make root t))
made_of_parts make root (Err bad) count unbuilt = refl
made_of_parts make root (Ok t) (Err bad) unbuilt = refl
made_of_parts make root (Ok t) (Ok n) (Err bad) = refl
made_of_parts make root (Ok t) (Ok n) (Ok u) = refl

pub added_of_parts : (root : Root) (id : ℕ) (t : Target) (d : Data) (place : List ℕ)
    → made (λ (b : Root × Option (List ℕ)). AddTarget b.0 id t b.1) (beside_target_at root d place) ≡ added_at root id t d place
added_of_parts root id t d place =
    made_of_parts (λ r token. AddTarget r id t token) root (token_in d place) (expected_in d place) (unbuilt_at (codes "once" ∷ codes "readTime" ∷ []) d place)
