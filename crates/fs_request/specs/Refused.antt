-- The message that tells a refusal. (`google.rpc.Status`.)
use Rattle.std.specs.Prelude.{ℕ, List, Option}
use Rattle.fs_status.specs.Message.{message_text}
use Rattle.fs_status.specs.declared.refusal.Refusal.{Refusal}
use Rattle.fs_request.specs.declared.message.Message.{Message}
use Rattle.fs_request.specs.declared.message.Message.TheVariants.{Error}

abbrev pub refused : Option (List ℕ) → Refusal → Message
refused id refusal = Error id refusal.code (message_text refusal.reason)
