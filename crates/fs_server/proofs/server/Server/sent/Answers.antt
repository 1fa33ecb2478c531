use Rattle.std.proofs.Common.{◌≡◌, [], length, sym, ap, ◌∙◌}
use Rattle.std.specs.FinMap.{empty, empty_of_len, entries-from_sorted, len-entries}
use Rattle.fs_path.specs.NameOrder.{name_cmp}
use Rattle.fs_write.specs.Batch.{docs_of}
use Rattle.fs_listen.specs.View.{view_at}
use Rattle.fs_server.proofs.server.Server.sent.Goals as goal

-- of no documents
none_shown : docs_of [] ≡ empty
none_shown = empty_of_len (docs_of []) (len-entries (docs_of []) ∙ ap length (entries-from_sorted name_cmp [] tt))

pub returns-in-None-clause-value : goal.returns-in-None-clause-value
returns-in-None-clause-value c = λ l found. ap docs_of c.new.ensures ∙ none_shown ∙ ap (view_at l.target c.args.self.now.past.history) (sym c.in-None.is)
