-- How a run ends.
use Rattle.std.proofs.Common.{◌≡◌, ℕ, Bool, List, [], ◌++◌, Option, Some, None, option_map, IfSome, refl, sym, ap, subst, ◌∙◌}
use Rattle.std.proofs.lemmas.List.{append-nil, append_cancel_right}
use Rattle.fs_edge.specs.declared.status.Status.{Status}
use Rattle.fs_edge.specs.declared.status.Status.TheVariants as status
use Rattle.fs_machine.specs.declared.config.Config.{Config}
use Rattle.fs_machine.specs.declared.limits.Limits.{Limits}
use Rattle.fs_replay.specs.Run.{Wrote}
use Rattle.fs_replay.specs.Step.{start}
use Rattle.fs_replay.specs.Gathering.{is_whole, status_of}
use Rattle.fs_replay.specs.Moved.{Taken, IfTaken, Gained, GainedFront}
use Rattle.fs_replay.specs.Transcript.{played, transcript}
use Rattle.fs_replay.specs.declared.gather.Stop.{Stop}
use Rattle.fs_replay.specs.declared.gather.Stop.TheVariants.{End, Failed, Full}
use Rattle.fs_replay.proofs.Flow.{gained_front_more, gained_nothing}
use Rattle.fs_replay.proofs.Written.{played_front}

-- the bytes that were taken are known from what was left and what is left
pub if_taken : (a b : Option (List ℕ)) (x : List ℕ) (P : List ℕ → Type 0) → Taken a b x → P x → IfTaken a b P
if_taken a b x P took p = λ taken rest before after.
    let same : Some (x ++ rest) ≡ Some (taken ++ rest) = ap (option_map (λ r. x ++ r)) (sym after) ∙ sym took ∙ before in
    let lists : x ++ rest ≡ taken ++ rest = cc in
    subst P (append_cancel_right x taken rest lists) p

-- where nothing is left, all was taken
pub if_all_taken : (a b : Option (List ℕ)) (x : List ℕ) (P : List ℕ → Type 0) → Taken a b x → IfSome b (λ rest. rest ≡ []) → P x → IfSome a P
if_all_taken None b x P took none p = tt
if_all_taken (Some all) None x P took none p = absurd (cc)
if_all_taken (Some all) (Some rest) x P took none p =
    let lists : all ≡ x ++ rest = cc in
    subst P (sym (lists ∙ ap (λ r. x ++ r) none ∙ append-nil x)) p

module _ (config : Config) (limits : Limits) where
  -- a front of what was carried out is a front of the transcript
  pub front_of_transcript : (a b : Option (List ℕ)) (whole : Bool) (script : List ℕ) → GainedFront a b (played whole (start config limits) 1 script) → GainedFront a b (transcript config limits script)
  front_of_transcript a b whole script part =
      let front = played_front config limits whole script in
      gained_front_more a a b [] (played whole (start config limits) 1 script) front.0 (transcript config limits script) (gained_nothing a) part front.1

  -- what was written where all that was read is carried out
  pub wrote_all : (stop : Stop) (a b : Option (List ℕ)) (taken : List ℕ) → Gained a b (played (is_whole stop) (start config limits) 1 taken) → Wrote config limits (status_of stop) taken a b
  wrote_all End a b taken gained = gained
  wrote_all Failed a b taken gained = gained
  wrote_all Full a b taken gained = gained

pub ended_whole : (stop : Stop) → status_of stop ≡ status.Ok → stop ≡ End
ended_whole End e = refl
ended_whole Failed e = absurd (cc)
ended_whole Full e = absurd (cc)

pub ended_full : (stop : Stop) → status_of stop ≡ status.InputLimit → stop ≡ Full
ended_full End e = absurd (cc)
ended_full Failed e = absurd (cc)
ended_full Full e = refl

module _ (config : Config) (limits : Limits) where
  pub wrote_here : (stop : Stop) (whole : Bool) (status : Status) (a b : Option (List ℕ)) (script bytes : List ℕ)
      → whole ≡ is_whole stop → status ≡ status_of stop → script ≡ bytes → Gained a b (played whole (start config limits) 1 script) → Wrote config limits status bytes a b
  wrote_here stop whole status a b script bytes w s t gained =
      subst (λ x. Wrote config limits x bytes a b) (sym s)
      (wrote_all config limits stop a b bytes (subst (λ v. Gained a b (played v (start config limits) 1 bytes)) w (subst (λ t. Gained a b (played whole (start config limits) 1 t)) t gained)))
