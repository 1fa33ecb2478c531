-- The tokens of what is told of a request that still waits, as they are written one after another.
use Rattle.std.proofs.Common.{◌≡◌, ℕ, List, [], ◌∷◌, ◌++◌, Option, Some, None, refl, ap, ◌∙◌}
use Rattle.json.specs.Token.{begin_object, end_object}
use Rattle.serde_json.specs.Data as json
use Rattle.fs_rpc.specs.MessageJson.{with_id}
use Rattle.fs_valjson.proofs.Tokens.{object_tokens}
use Rattle.fs_valjson.specs.Tokens.{member_tokens, text_member, tokens_of}
use Rattle.fs_machine.specs.declared.parked.Parked.{Parked}
use Rattle.fs_replay.specs.Held.{held_json, with_held}

held_members : (held : Option ℕ) (id : Option (List ℕ)) (name text : List ℕ)
    → (member_tokens (with_held held json.no_members) ++ member_tokens (with_id id json.no_members)) ++ text_member name text
    ≡ member_tokens (with_held held (with_id id (json.member name (json.string text) json.no_members)))
held_members None None name text = refl
held_members None (Some id) name text = refl
held_members (Some held) None name text = refl
held_members (Some held) (Some id) name text = refl

pub held_tokens : (p : Parked) (asker : List ℕ × List ℕ)
    → begin_object ∷ (((member_tokens (with_held p.held json.no_members) ++ member_tokens (with_id p.id json.no_members)) ++ text_member asker.0 asker.1) ++ end_object ∷ []) ≡ tokens_of (held_json asker p)
held_tokens p asker =
    ap (λ ts. begin_object ∷ (ts ++ end_object ∷ [])) (held_members p.held p.id asker.0 asker.1)
    ∙ object_tokens (with_held p.held (with_id p.id (json.member asker.0 (json.string asker.1) json.no_members)))
