use Rattle.std.proofs.Common.{Result, Ok, Err, refl, sym, ap, ◌∙◌}
use Rattle.std.specs.Prelude.{OnOk}
use Rattle.std.proofs.lemmas.Result.{IfOk-weaker}
use Rattle.fs_request.specs.declared.stream_request.StreamRequest.{StreamRequest}
use Rattle.fs_request.specs.declared.stream_request.StreamRequest.TheVariants.{Open, Resume, Ask, Mixed}
use Rattle.fs_machine.specs.Request.{answered, asked}
use Rattle.fs_server.specs.Streaming.{writing}
use Rattle.fs_server.proofs.Writing.{state_asking, state_call, state_mixed, told_call, told_streaming}
use Rattle.fs_server.proofs.server.Server.write.Goals as goal

always_ok : {A E P : Type 0} (r : Result A E) → P → OnOk r P
always_ok (Ok a) p = p
always_ok (Err e) p = tt

pub returns-in-Open-clause-told : goal.returns-in-Open-clause-told
returns-in-Open-clause-told c = told_call c.open_stream.result c.args.self.now c.args.session c.args.id.now c.args.database.now Open c.args.sent.now refl c.in-Open.is c.open_stream.ensures.told

pub returns-in-Open-clause-state : goal.returns-in-Open-clause-state
returns-in-Open-clause-state c =
    state_call c.open_stream.result c.open_stream.new.self c.args.self.now c.args.session c.args.id.now c.args.database.now Open c.args.sent.now refl c.in-Open.is c.open_stream.ensures.state

pub returns-in-Resume-clause-told : goal.returns-in-Resume-clause-told
returns-in-Resume-clause-told c =
    told_call c.resume_stream.result c.args.self.now c.args.session c.args.id.now c.args.database.now (Resume c.in-Resume.stream c.in-Resume.token) c.args.sent.now refl c.in-Resume.is c.resume_stream.ensures.told

pub returns-in-Resume-clause-state : goal.returns-in-Resume-clause-state
returns-in-Resume-clause-state c =
    state_call c.resume_stream.result c.resume_stream.new.self c.args.self.now c.args.session c.args.id.now c.args.database.now (Resume c.in-Resume.stream c.in-Resume.token) c.args.sent.now refl c.in-Resume.is c.resume_stream.ensures.state

pub returns-in-Ask-clause-told : goal.returns-in-Ask-clause-told
returns-in-Ask-clause-told c =
    let at = λ (q : StreamRequest). answered c.args.self.now c.args.session (writing c.args.id.now c.args.database.now q) in
    IfOk-weaker c.tell_stream.result _ _ (λ a so. so c.in-Ask.token ∙ told_streaming c.args.self.now c.args.session c.args.id.now c.args.database.now (Ask c.in-Ask.token) refl ∙ ap at (sym c.in-Ask.is)) c.tell_stream.ensures

pub returns-in-Ask-clause-state : goal.returns-in-Ask-clause-state
returns-in-Ask-clause-state c =
    let at = λ (q : StreamRequest). asked c.args.self.now c.args.session (writing c.args.id.now c.args.database.now q) in
    always_ok c.tell_stream.result (state_asking c.args.self.now c.args.session c.args.id.now c.args.database.now c.in-Ask.token ∙ ap at (sym c.in-Ask.is))

pub returns-in-Mixed-clause-told : goal.returns-in-Mixed-clause-told
returns-in-Mixed-clause-told c =
    let at = λ (q : StreamRequest). answered c.args.self.now c.args.session (writing c.args.id.now c.args.database.now q) in
    IfOk-weaker c.refuse_mixed.result _ _ (λ a so. so c.in-Mixed.stream c.in-Mixed.token ∙ told_streaming c.args.self.now c.args.session c.args.id.now c.args.database.now (Mixed c.in-Mixed.stream c.in-Mixed.token c.in-Mixed.writes) refl ∙ ap at (sym c.in-Mixed.is)) c.refuse_mixed.ensures

pub returns-in-Mixed-clause-state : goal.returns-in-Mixed-clause-state
returns-in-Mixed-clause-state c =
    let at = λ (q : StreamRequest). asked c.args.self.now c.args.session (writing c.args.id.now c.args.database.now q) in
    always_ok c.refuse_mixed.result (state_mixed c.args.self.now c.args.session c.args.id.now c.args.database.now c.in-Mixed.stream c.in-Mixed.token c.in-Mixed.writes ∙ ap at (sym c.in-Mixed.is))
