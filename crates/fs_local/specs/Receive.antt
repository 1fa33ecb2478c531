-- What a client makes of a message on its link. Answers to requests that it never makes, and other refusals, are passed over.
use Rattle.fs_request.specs.declared.message.Message.{Message}
use Rattle.fs_request.specs.declared.message.Message.TheVariants as message
use Rattle.fs_local.specs.Answered.{answered, greeted}
use Rattle.fs_local.specs.State.{Client}
use Rattle.fs_local.specs.Told.{told}

abbrev pub received : Message → Client → Client
received (message.Listen m) c = told m c
received (message.Write stream token answer) c = answered stream token answer (greeted c)
received (message.Commit id time results) c = c
received (message.GetDocument id document) c = c
received (message.BatchGetDocuments id answers) c = c
received (message.RunQuery id documents time) c = c
received (message.BeginTransaction id transaction) c = c
received (message.Rollback id) c = c
received (message.Error id code text) c = c
