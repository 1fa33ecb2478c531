-- The groups of a client, as they are stored: as the tuples of their parts.
use Rattle.std.specs.Prelude.{ℕ, Bool, List, Option, refl}
use Rattle.std.specs.Coded.{Coded, code_by, coded×, coded_bool, coded_list, coded_option, coded_ℕ}
use Rattle.std.specs.FinMap.{FinMap, code}
use Rattle.std.specs.Ordering.{nat_cmp}
use Rattle.fs_path.specs.contracts.name.Root as root
use Rattle.fs_path.specs.declared.name.Root.{Root}
use Rattle.fs_query.specs.contracts.listen.Cause as cause
use Rattle.fs_query.specs.declared.listen.Cause.{Cause}
use Rattle.fs_request.specs.contracts.request.Envelope as envelope
use Rattle.fs_request.specs.declared.request.Envelope.{Envelope}
use Rattle.fs_cache.specs.Cached.{Cached, cached_code}
use Rattle.fs_queue.specs.Queue.{Queue, queue_code}
use Rattle.fs_local.specs.State.{Client, Hand, Link, Targets}
use Rattle.fs_local.specs.contracts.listened.Listened as listened
use Rattle.fs_local.specs.contracts.refusal.BatchRefusal as refusal
use Rattle.fs_local.specs.declared.listened.Listened.{Listened}
use Rattle.fs_local.specs.declared.refusal.BatchRefusal.{BatchRefusal}

abbrev pub targets_code : Coded Targets
targets_code =
    code_by (FinMap nat_cmp Listened × (Option (List ℕ) × (FinMap nat_cmp Cause × (ℕ × ℕ))))
    (coded× (code coded_ℕ listened.the_row.coded) (coded× (coded_option (coded_list coded_ℕ)) (coded× (code coded_ℕ cause.the_row.coded) (coded× coded_ℕ coded_ℕ))))
    (λ t. (t.listened, (t.token, (t.causes, (t.last, t.limit))))) (λ p. record { listened = p.0; token = p.1.0; causes = p.1.1.0; last = p.1.1.1.0; limit = p.1.1.1.1 }) (λ _. refl)

abbrev pub link_code : Coded Link
link_code = code_by (Bool × Bool) (coded× coded_bool coded_bool) (λ l. (l.greeted, l.raised)) (λ p. record { greeted = p.0; raised = p.1 }) (λ _. refl)

abbrev pub hand_code : Coded Hand
hand_code =
    code_by (Option ℕ × (ℕ × (Option Link × List Envelope))) (coded× (coded_option coded_ℕ) (coded× coded_ℕ (coded× (coded_option link_code) (coded_list envelope.the_row.coded))))
    (λ h. (h.stream, (h.token, (h.link, h.out)))) (λ p. record { stream = p.0; token = p.1.0; link = p.1.1.0; out = p.1.1.1 }) (λ _. refl)

abbrev pub client_code : Coded Client
client_code =
    code_by (Root × (Cached × (Targets × (Queue × (Hand × List BatchRefusal)))))
    (coded× root.the_row.coded (coded× cached_code (coded× targets_code (coded× queue_code (coded× hand_code (coded_list refusal.the_row.coded))))))
    (λ c. (c.root, (c.cache, (c.targets, (c.queue, (c.hand, c.refusals))))))
    (λ p. record { root = p.0; cache = p.1.0; targets = p.1.1.0; queue = p.1.1.1.0; hand = p.1.1.1.1.0; refusals = p.1.1.1.1.1 })
    (λ _. refl)
