use Rattle.std.proofs.Common.{◌++◌, [], ◌∷◌, sym, ap, ◌∙◌, arith, ◌<◌}
use Rattle.fs_sessions.specs.Place.{all_taken_back}
use Rattle.fs_sessions.proofs.Replies.{popped, taken_back_last}
use Rattle.fs_sessions.proofs.sessions.Sessions.take_all_back.Goals as goal

pub loop-session-preserved : goal.loop-session-preserved
loop-session-preserved c =
    let to = c.loop-session.to in
    let some : 0 < to.len = omega (arith, c.in-Some.ensures.cases) in
    let last = popped to.items to.len c.in-Some.session (sym to.ok.0) some (c.in-Some.ensures.value 0 some) in
    ap (all_taken_back c.pop.new.self.items) c.take_back.ensures
    ∙ sym (taken_back_last c.pop.new.self.items c.in-Some.session c.loop-session.self)
    ∙ ap (λ ns. all_taken_back (ns ++ c.in-Some.session ∷ []) c.loop-session.self) c.in-Some.ensures.rest
    ∙ ap (λ ns. all_taken_back ns c.loop-session.self) last
    ∙ c.loop-session.invariant
