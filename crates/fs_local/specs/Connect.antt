-- The link of a client is lost, and it gets a new one. What was told on the old one since the last snapshot is thrown away, and what was sent and
-- isn't answered waits again. On the new one it opens its stream, or resumes it, and listens to its targets once more, each from the last
-- snapshot that has it, in the order of their ids.
use Rattle.std.specs.Prelude.{ℕ, false, List, [], ◌∷◌, map, Option, Some, None, if◌then◌else◌}
use Rattle.std.specs.FinMap.{entries, from_entries}
use Rattle.fs_path.specs.declared.name.Root.{Root}
use Rattle.fs_request.specs.declared.request.Envelope.{Envelope}
use Rattle.fs_cache.specs.Cached.{thrown}
use Rattle.fs_queue.specs.Queue.{with_link_lost}
use Rattle.fs_local.specs.Ask.{add_request, stream_request}
use Rattle.fs_local.specs.State.{Client, Hand, Targets}
use Rattle.fs_local.specs.declared.listened.Listened.{Listened}

abbrev pub each : (Listened → Listened) → Targets → Targets
each change ts = record ts { listened = from_entries (map (λ e. (e.0, change e.1)) (entries ts.listened)) }

abbrev pub not_current : Listened → Listened
not_current l = record l { current = false }

abbrev pub cut_off : Hand → Hand
cut_off h = record h { link = None; out = [] }

abbrev pub lost : Client → Client
lost c = record c { cache = thrown c.cache; targets = each not_current c.targets; queue = with_link_lost c.queue; hand = cut_off c.hand }

-- the token with which a target goes on
abbrev pub token_for : Option (List ℕ) → Listened → Option (List ℕ)
token_for token l = if l.shown then token else None

abbrev pub add_entry : Root → Option (List ℕ) → ℕ × Listened → Envelope
add_entry root token e = add_request root e.0 e.1.target (token_for token e.1)

-- what is to be sent first
abbrev pub greetings : Root → Targets → Hand → List Envelope
greetings root ts h = stream_request root h ∷ map (add_entry root ts.token) (entries ts.listened)

abbrev pub linked : Root → Targets → Hand → Hand
linked root ts h = record h { link = Some (record { greeted = false; raised = false }); out = greetings root ts h }

abbrev pub connected : Client → Client
connected c = record (lost c) { hand = linked c.root c.targets c.hand }
