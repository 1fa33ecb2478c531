-- How a query is read below a parent, once its walk found no fault.
use Rattle.std.proofs.Common.{◌≡◌, ℕ, List, Result, Ok, Err, codes, refl}
use Rattle.serde_json.specs.Data.{Data}
use Rattle.fs_path.specs.Place.{member_place}
use Rattle.fs_json.specs.Answer.{Gives, ◌>>=◌}
use Rattle.fs_json.specs.Members.{required_at}
use Rattle.fs_json.specs.declared.bad.Bad.{Bad}
use Rattle.fs_json.specs.declared.bad.Bad.TheVariants.{At, Method, Memory}
use Rattle.fs_query.specs.Asked.{Asked}
use Rattle.fs_queryjson.specs.Query.{permitted_at, walked_at}
use Rattle.fs_rpc.specs.Requests.{structured_at}
use Rattle.fs_rpc.specs.When.{when_at}
use Rattle.fs_request.specs.declared.when.When.{When}

-- a fault of the walk
pub walk_fails : (parent : List (List ℕ)) (d s : Data) (place : List ℕ) (bad : Bad) → required_at (codes "structuredQuery") d place ≡ Ok s
    → walked_at parent s (member_place place (codes "structuredQuery")) ≡ Err bad → structured_at parent d place ≡ Err bad
unfolding structured_at
walk_fails parent d s place bad there fails = rw (there, fails) refl

-- a fault of what comes after the walk
pub structured_fails : (parent : List (List ℕ)) (d s : Data) (place : List ℕ) (q : Asked) (bad : Bad) → required_at (codes "structuredQuery") d place ≡ Ok s
    → walked_at parent s (member_place place (codes "structuredQuery")) ≡ Ok q → when_at d place ≡ Err bad → structured_at parent d place ≡ Err bad
unfolding structured_at
structured_fails parent d s place q bad there walked fails = rw (there, walked, fails) refl

-- a query that is asked then
abbrev pub asked_when : When → Result Asked Bad → Result (Asked × When) Bad
asked_when when query = query >>= λ q. Ok (q, when)

-- and none
pub structured_gives : (parent : List (List ℕ)) (d s : Data) (place : List ℕ) (q : Asked) (when : When) → required_at (codes "structuredQuery") d place ≡ Ok s
    → walked_at parent s (member_place place (codes "structuredQuery")) ≡ Ok q → when_at d place ≡ Ok when
    → structured_at parent d place ≡ asked_when when (permitted_at q (member_place place (codes "structuredQuery")))
unfolding structured_at
structured_gives parent d s place q when there walked told = rw (there, walked, told) refl

-- a fault that is passed on
pub passed_on : {X Y V W : Type 0} (f : X → Y) (g : V → W) (bad : Bad) (one : Result Y Bad) (other : Result W Bad) → Gives f (Err bad) one
    → ((b : Bad) → one ≡ Err b → other ≡ Err b) → Gives g (Err bad) other
passed_on f g (At rule place) one other gives pass = pass (At rule place) gives
passed_on f g (Method name) one other gives pass = pass (Method name) gives
passed_on f g (Memory e) one other gives pass = record {}
