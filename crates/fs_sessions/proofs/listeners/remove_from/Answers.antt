use Rattle.fs_sessions.proofs.listeners.remove_from.Goals as goal

pub returns : goal.returns
returns c = λ i. record { session = c.args.ear.now.session; held = c.forget.ensures i; numbers = c.remove.ensures i }
