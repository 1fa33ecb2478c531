use Rattle.std.proofs.Common.{sym, ap, subst, ◌∙◌}
use Rattle.fs_valjson.specs.Document.{document_at}
use Rattle.fs_writejson.specs.Held.{IsMaskHeld, IsUpdateHeld}
use Rattle.fs_writejson.specs.Mask.{mask_at}
use Rattle.fs_json.proofs.Writings.{on_ok_always}
use Rattle.fs_writejson.proofs.write.put_act.Goals as goal

pub returns-in_ok-write_mask-in-Merge-clause-held : goal.returns-in_ok-write_mask-in-Merge-clause-held
returns-in_ok-write_mask-in-Merge-clause-held c =
    let update = c.in_ok-update-in-Merge.ensures in
    let mask = c.in_ok-write_mask-in-Merge.ensures in
    let lent : IsUpdateHeld c.in-Merge.name c.as_fields-in-Merge.result.now = λ root place is names. ap (λ d. document_at root d place) (sym update.value) ∙ update.reads_back root place is names in
    let fields : IsUpdateHeld c.in-Merge.name c.in-Merge.fields = subst (IsUpdateHeld c.in-Merge.name) c.as_fields-in-Merge.ensures lent in
    let paths : IsMaskHeld c.in-Merge.mask = λ place. ap (λ d. mask_at d place) (sym mask.value) ∙ mask.reads_back place in
    rw c.in-Merge.is (on_ok_always c.put-in-Merge-2.result (fields, paths))
