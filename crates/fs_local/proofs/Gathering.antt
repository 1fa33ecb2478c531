-- What a client has staged of a target at a name is what whoever reads all of the target's messages has of it.
use Rattle.std.proofs.Common.{◌≡◌, ℕ, Bool, true, false, cond, List, [], ◌∷◌, Option, Some, None, refl, ap, ◌∙◌}
use Rattle.std.specs.Prelude.{◌&&◌, is_some}
use Rattle.std.specs.FinMap.{get}
use Rattle.fs_path.specs.NameOrder.{name_eq}
use Rattle.fs_path.specs.declared.name.DocName.{DocName}
use Rattle.fs_value.specs.declared.document.Document.{Document}
use Rattle.fs_query.specs.declared.listen.ListenMessage.{ListenMessage}
use Rattle.fs_query.specs.declared.listen.ListenMessage.TheVariants as message
use Rattle.fs_listen.specs.Gathered.{gathered, heard, is_in}
use Rattle.fs_local.specs.Gathered.{TellsWhetherAll, staged_by, told_all}
use Rattle.fs_local.specs.Laws.{GatheredIsStaged, MembersAreStaged}
use Rattle.fs_local.specs.State.{Client}
use Rattle.fs_local.specs.Told.{told}
use Rattle.fs_local.proofs.Staging.{listened_still, staged_told, whether_told}

pub gathered_is_staged : GatheredIsStaged
gathered_is_staged id name start [] c there tells = refl
gathered_is_staged id name start (m ∷ ms) c there tells =
    gathered_is_staged id name start ms (told m c) (listened_still id name c there m tells.0.left) tells.1
    ∙ ap (gathered id name start ms) (staged_told id name c there start m tells.0)

-- whether there is one depends only on whether there was
either_alike : (b : Bool) (x o p : Option Document) → is_some o ≡ is_some p → is_some (cond b x o) ≡ is_some (cond b x p)
either_alike true x o p alike = refl
either_alike false x o p alike = alike

heard_alike : (id : ℕ) (name : DocName) (start : Option Document) (m : ListenMessage) (o p : Option Document) → is_some o ≡ is_some p → is_some (heard id name start m o) ≡ is_some (heard id name start m p)
heard_alike id name start (message.Add ids) o p alike = either_alike (is_in id ids) start o p alike
heard_alike id name start (message.Remove ids cause) o p alike = either_alike (is_in id ids) None o p alike
heard_alike id name start (message.Reset ids) o p alike = either_alike (is_in id ids) None o p alike
heard_alike id name start (message.Current ids time token) o p alike = alike
heard_alike id name start (message.NoChange time token) o p alike = alike
heard_alike id name start (message.Changed d ids left) o p alike = by_test (name_eq name d.name) where
  by_test : (same : Bool) → is_some (cond same (cond (is_in id ids) (Some d) (cond (is_in id left) None o)) o) ≡ is_some (cond same (cond (is_in id ids) (Some d) (cond (is_in id left) None p)) p)
  by_test true = either_alike (is_in id ids) (Some d) (cond (is_in id left) None o) (cond (is_in id left) None p) (either_alike (is_in id left) None o p alike)
  by_test false = alike
heard_alike id name start (message.Deleted other time left) o p alike = either_alike (name_eq name other && is_in id left) None o p alike
heard_alike id name start (message.Removed other time left) o p alike = either_alike (name_eq name other && is_in id left) None o p alike

members_from : (id : ℕ) (name : DocName) (start : Option Document) (ms : List ListenMessage) (c : Client) (had : Option Document) → is_some (get c.targets.listened id) ≡ true → TellsWhetherAll id name start ms c
    → is_some (staged_by id name c) ≡ is_some had → is_some (staged_by id name (told_all ms c)) ≡ is_some (gathered id name start ms had)
members_from id name start [] c had there tells alike = alike
members_from id name start (m ∷ ms) c had there tells alike =
    members_from id name start ms (told m c) (heard id name start m had) (listened_still id name c there m tells.0.left) tells.1
    (whether_told id name c there start m tells.0 ∙ heard_alike id name start m (staged_by id name c) had alike)

pub members_are_staged : MembersAreStaged
members_are_staged id name start ms c there tells = members_from id name start ms c (staged_by id name c) there tells refl
