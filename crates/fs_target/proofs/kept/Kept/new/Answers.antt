use Rattle.std.proofs.Common.{◌∙◌}
use Rattle.fs_target.proofs.Viewing.{rising_put}
use Rattle.fs_target.proofs.kept.Kept.new.Goals as goal

pub returns : goal.returns
returns c = record {
  kept = λ i. record {
    sent = (c.in_ok-of.ensures ∙ rising_put c.args.sent c.requires.sent) i;
    docs = (c.in_ok-of-2.ensures ∙ rising_put c.args.docs c.requires.docs) i;
    staged = c.new.ensures.staged i;
  };
}
