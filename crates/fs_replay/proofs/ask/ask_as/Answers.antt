use Rattle.std.proofs.Common.{◌≡◌, ℕ, List, Option, Result, Ok, Err, refl, sym, ◌∙◌, subst}
use Rattle.std.proofs.lemmas.Result.{on_ok_weaker}
use Rattle.fs_rpc.specs.declared.envelope.SessionRequest.{SessionRequest}
use Rattle.fs_status.specs.declared.refusal.Refusal.{Refusal}
use Rattle.fs_replay.specs.Directory.{number_of}
use Rattle.fs_replay.specs.Played.{Plays}
use Rattle.fs_replay.specs.Step.{asks_if, entered, entry, in_session}
use Rattle.fs_replay.specs.declared.state.State.{State}
use Rattle.fs_replay.proofs.ask.ask_as.Goals as goal
use Rattle.fs_replay.proofs.ask.ask_as.Goals.{in-Ok, in-Err}

-- its session opens, if it isn't open, and then it is asked
asked_in : (s t u : State) (a : SessionRequest) (number : Option ℕ) (got : Result ℕ Refusal) (before after : List ℕ) → t ≡ entered s a.session number → got ≡ entry s number
    → Plays (asks_if t a got) u before after → Plays (in_session s a number) u before after
asked_in s t u a number got before after is got_is plays =
    let p : Plays (asks_if (entered s a.session number) a (entry s number)) u before after = subst (λ r. Plays (asks_if (entered s a.session number) a r) u before after) got_is (subst (λ (x : State). Plays (asks_if x a got) u before after) is plays) in
    record { state = p.state; output = p.output }

pub returns : goal.returns
returns c =
    let s = c.args.state.now in
    let t = c.enter.new.state in
    let a : SessionRequest = record { session = c.args.name.now; id = c.args.envelope.now.id; request = Ok c.args.envelope.now.request } in
    let number = number_of c.args.name.now s.directory in
    let before = c.args.out.now.items in
    elim c.match-entered.branch [
      | in-Ok w ↦
          let done = w.reply_to-done in
          let got = sym w.in-Ok.is ∙ c.in_ok-entered.ensures.number in
          let asked = on_ok_weaker done.result (asked_in s t done.new.state a number (Ok w.in-Ok.number) before done.new.out.items c.in_ok-entered.ensures.state got) done.ensures in
          rw (w.done-is, w.state-is, w.out-is) asked
      | in-Err w ↦
          let done = w.refuse-done in
          let got = sym w.in-Err.is ∙ c.in_ok-entered.ensures.number in
          let refused = on_ok_weaker done.result
          (λ said. asked_in s t t a number (Err w.in-Err.refusal) before done.new.out.items c.in_ok-entered.ensures.state got (record { state = refl; output = said }))
          done.ensures in
          rw (w.done-is, w.state-is, w.out-is) refused
    ]
