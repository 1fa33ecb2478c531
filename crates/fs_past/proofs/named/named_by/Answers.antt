use Rattle.std.proofs.Common.{◌≡◌, ◌+◌, Some, IfSome, sym, ap, ◌∙◌, subst, take}
use Rattle.std.specs.Prelude.{option_copied}
use Rattle.std.specs.FinMap.{get, get-empty}
use Rattle.fs_path.specs.NameOrder.{name_cmp}
use Rattle.fs_history.specs.History.{at}
use Rattle.fs_past.proofs.Naming.{Shows as HasNamed, shows_found, shows_absent}
use Rattle.fs_past.proofs.named.named_by.Goals as goal
use Rattle.fs_past.proofs.named.named_by.Goals.{in-Some+in_ok-copy-in-Some+in_ok-put-in-Some, in-None}

pub loop-write-init : goal.loop-write-init
loop-write-init c = λ h shows q. ap (λ m. get m q) c.new-there.ensures ∙ get-empty name_cmp q

pub loop-write-preserved : goal.loop-write-preserved
loop-write-preserved c = λ h shows.
    let docs = at h c.absorbed-newest.result in
    let ws = c.args.writes.now in
    let l = c.loop-write in
    let w = c.write-item.result in
    let n = c.name.result.now in
    let value = c.get.ensures.shows h shows in
    let named = c.histories_are_lawful.ensures.own_names h c.absorbed-newest.result n in
    elim c.match-get.branch [
      | in-Some+in_ok-copy-in-Some+in_ok-put-in-Some x ↦
          let copied = x.in_ok-copy-in-Some.ensures in
          let here = ap Some copied ∙ ap option_copied (sym x.in-Some.is) ∙ value in
          shows_found docs ws l.write-index w l.there c.loop-write-test.true c.write-item.is (l.invariant h shows) x.in_ok-copy-in-Some.field-0 n c.name.ensures
          here
          (subst (λ o. IfSome o (λ d. d.name ≡ n)) (sym here) named)
          c.match-get.there (x.there-is ∙ x.in_ok-put-in-Some.ensures.ok)
      | in-None x ↦
          subst (HasNamed docs (take (l.write-index + 1) ws)) (sym x.there-is)
          (shows_absent docs ws l.write-index w l.there c.loop-write-test.true c.write-item.is (l.invariant h shows) n c.name.ensures (ap option_copied (sym x.in-None.is) ∙ value))
    ]
