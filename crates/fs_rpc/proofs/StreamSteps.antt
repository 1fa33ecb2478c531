-- What is asked of a stream is what is read of it one part after another.
use Rattle.std.proofs.Common.{◌≡◌, ℕ, List, Option, Result, Ok, Err, refl}
use Rattle.serde_json.specs.Data.{Data}
use Rattle.fs_json.specs.Answer.{◌>>=◌}
use Rattle.fs_json.specs.declared.bad.Bad.{Bad}
use Rattle.fs_path.specs.declared.name.Root.{Root}
use Rattle.fs_writejson.specs.declared.draft.Draft.{Draft}
use Rattle.fs_rpc.specs.ReadStreams.{token_for}
use Rattle.fs_rpc.specs.ReadTargets.{labels_in}
use Rattle.fs_rpc.specs.RequestSteps.{judged_stream_at, labelled_token_at, stream_of_at}

in_turn_of_both : {A B C : Type 0} (first : Result A Bad) (second : Result B Bad) (f : A → Result C Bad)
    → ((first >>= λ x. second >>= λ _. Ok x) >>= f) ≡ (first >>= λ x. second >>= λ _. f x)
in_turn_of_both (Err bad) second f = refl
in_turn_of_both (Ok x) (Err bad) f = refl
in_turn_of_both (Ok x) (Ok y) f = refl

pub stream_of_parts : (root : Root) (stream : Option ℕ) (drafts : List Draft) (d : Data) (place : List ℕ)
    → (labelled_token_at stream drafts d place >>= λ token. judged_stream_at root stream token drafts place) ≡ stream_of_at root stream drafts d place
stream_of_parts root stream drafts d place =
    in_turn_of_both (token_for stream drafts d place) (labels_in d place) (λ token. judged_stream_at root stream token drafts place)
