-- What always stands of a client, each step keeps, and so each run.
use Rattle.std.proofs.Common.{◌≡◌, ℕ, ◌<◌, ℤ, Bool, true, false, cond, List, [], ◌∷◌, Option, Some, None, refl, sym, ap, ◌∙◌, subst, suc}
use Rattle.std.specs.Prelude.{◌==◌, is_some}
use Rattle.std.specs.FinMap.{get, get-insert}
use Rattle.std.specs.Ordering.{eq_by_cmp, nat_cmp}
use Rattle.std.proofs.lemmas.Cmp.{nat_cmp_total}
use Rattle.fs_path.specs.declared.name.Root.{Root}
use Rattle.fs_query.specs.declared.listen.Cause.{Cause}
use Rattle.fs_query.specs.declared.listen.ListenMessage.{ListenMessage}
use Rattle.fs_query.specs.declared.listen.ListenMessage.TheVariants as message
use Rattle.fs_query.specs.declared.target.Target.{Target}
use Rattle.fs_request.specs.declared.message.Message.{Message}
use Rattle.fs_request.specs.declared.message.Message.TheVariants as received_message
use Rattle.fs_request.specs.declared.message.StreamAnswer.{StreamAnswer}
use Rattle.fs_request.specs.declared.message.StreamAnswer.TheVariants as answer
use Rattle.fs_status.specs.declared.code.Code.{Code}
use Rattle.fs_queue.specs.Queue.{acknowledged_at, oldest_of, refused_oldest}
use Rattle.fs_local.specs.Answered.{answered, committed_in, counted, greeted, opened, refused_in, snapshot_by}
use Rattle.fs_local.specs.Ask.{add_request, remove_request}
use Rattle.fs_local.specs.Connect.{connected, each, lost, not_current}
use Rattle.fs_local.specs.Laws.{AlwaysStands}
use Rattle.fs_local.specs.Listen.{listened, with_target}
use Rattle.fs_local.specs.Raise.{may_raise, now_shown, raised, told_unchanged, with_snapshot}
use Rattle.fs_local.specs.Receive.{received}
use Rattle.fs_local.specs.Runs.{May, MayAll, Step, listens, unlistens, writes, connects, loses, sends, receives, tells, after, after_all}
use Rattle.fs_local.specs.Stands.{AreUncovered, HaveSnapshots, Stands}
use Rattle.fs_local.specs.State.{Client, Targets, start}
use Rattle.fs_local.specs.TakeOut.{batch_out, taken_out}
use Rattle.fs_local.specs.Told.{own, refused_targets, staged, told, told_removed, with_current}
use Rattle.fs_local.specs.Unlisten.{unlistened}
use Rattle.fs_local.proofs.Holding.{holds_forgotten, holds_more, holds_none, holds_refused, holds_settled, holds_taken, holds_thrown, holds_told, same_snapshot}
use Rattle.fs_local.proofs.TargetsAt.{some_current, some_each}
use Rattle.fs_local.proofs.Numbered.{above_last, numbered_current, numbered_each, numbered_none, numbered_refused, numbered_with, numbered_without}
use Rattle.fs_local.proofs.OnLink.{link_asking, link_connected, link_counted, link_covered, link_greeted, link_lost, link_none, link_opened, link_raised, link_sent, link_unsent}
use Rattle.fs_local.proofs.Snapshots.{snapshots_current, snapshots_lost, snapshots_none, snapshots_raised, snapshots_refused, snapshots_settled, snapshots_with, snapshots_without}
use Rattle.fs_local.proofs.Uncovered.{left_uncovered, sent_acknowledged, uncovered_left}

pub begins : (root : Root) (targets batches : ℕ) → Stands (start root targets batches)
begins root targets batches = record {
  holds = holds_none targets;
  uncovered = tt;
  link = link_none batches;
  numbered = numbered_none targets;
  snapshots = snapshots_none targets;
}

-- ---- what the client does

some_more : (id q : ℕ) (t : Target) (ts : Targets) → is_some (get ts.listened q) ≡ true → is_some (get (with_target id t ts).listened q) ≡ true
some_more id q t ts there = ap is_some (get-insert nat_cmp_total ts.listened id _ q) ∙ by_test (eq_by_cmp nat_cmp q id) where
  by_test : (same : Bool) → is_some (cond same (Some (record { target = t; shown = false; current = false })) (get ts.listened q)) ≡ true
  by_test true = refl
  by_test false = there

module _ (c : Client) (stands : Stands c) where
  pub stands_listened : (id : ℕ) (t : Target) → c.targets.last < id → Stands (listened id t c)
  stands_listened id t above = record {
    holds = holds_more c.cache c.targets stands.holds (with_target id t c.targets) (λ q there. some_more id q t c.targets there);
    uncovered = stands.uncovered;
    link = link_asking c.hand c.queue stands.link (add_request c.root id t None);
    numbered = numbered_with id t c.targets above stands.numbered;
    snapshots = snapshots_with c.cache.snapshot c.targets stands.snapshots id t;
  }

  pub stands_unlistened : (id : ℕ) → Stands (unlistened id c)
  stands_unlistened id = record {
    holds = holds_forgotten c.cache c.targets stands.holds id;
    uncovered = stands.uncovered;
    link = link_asking c.hand c.queue stands.link (remove_request c.root id);
    numbered = numbered_without id c.targets stands.numbered;
    snapshots = snapshots_without c.cache.snapshot c.targets stands.snapshots id;
  }

  stands_lost : Stands (lost c)
  stands_lost = record {
    holds = holds_more _ c.targets (holds_thrown c.cache c.targets stands.holds) (each not_current c.targets) (some_each not_current c.targets);
    uncovered = stands.uncovered;
    link = link_lost c.hand c.queue;
    numbered = numbered_each not_current c.targets stands.numbered;
    snapshots = snapshots_lost c.cache.snapshot c.targets stands.snapshots;
  }

  stands_connected : Stands (connected c)
  stands_connected = record {
    holds = stands_lost.holds;
    uncovered = stands.uncovered;
    link = link_connected c.root c.targets c.hand c.queue;
    numbered = stands_lost.numbered;
    snapshots = stands_lost.snapshots;
  }

  pub stands_sent : Stands (taken_out c)
  stands_sent = record {
    holds = stands.holds;
    uncovered = subst (AreUncovered c.cache.snapshot) (sym (sent_acknowledged (batch_out c.root c.hand c.queue) c.queue)) stands.uncovered;
    link = link_sent c.hand c.queue stands.link c.root;
    numbered = stands.numbered;
    snapshots = stands.snapshots;
  }

  -- ---- what it is told of targets

  stands_staged : (m : ListenMessage) → Stands (staged m c)
  stands_staged m = record {
    holds = holds_told c.cache c.targets stands.holds m;
    uncovered = stands.uncovered;
    link = stands.link;
    numbered = stands.numbered;
    snapshots = stands.snapshots;
  }

  pub stands_removed : (ids : List ℕ) (cause : Option Cause) → Stands (told_removed ids cause c)
  stands_removed ids None = stands_staged (message.Remove ids None)
  stands_removed ids (Some cause) = record {
    holds = holds_refused ids cause c.cache c.targets stands.holds;
    uncovered = subst (λ s. AreUncovered s c.queue.acknowledged) (sym (same_snapshot (own c.targets ids) c.cache)) stands.uncovered;
    link = stands.link;
    numbered = numbered_refused ids cause c.targets stands.numbered;
    snapshots = subst (λ s. HaveSnapshots s (refused_targets ids cause c.targets)) (sym (same_snapshot (own c.targets ids) c.cache)) (snapshots_refused c.cache.snapshot c.targets stands.snapshots ids cause);
  }

  stands_current : (ids : List ℕ) → Stands (record c { targets = with_current ids c.targets })
  stands_current ids = record {
    holds = holds_more c.cache c.targets stands.holds (with_current ids c.targets) (λ q there. some_current ids c.targets q ∙ there);
    uncovered = stands.uncovered;
    link = stands.link;
    numbered = numbered_current ids c.targets stands.numbered;
    snapshots = snapshots_current c.cache.snapshot c.targets stands.snapshots ids;
  }

  pub stands_raised : (time : ℤ) (token : List ℕ) → Stands (raised time token c)
  stands_raised time token = record {
    holds = holds_more _ c.targets (holds_taken c.cache c.targets stands.holds time) (with_snapshot token c.targets) (some_each now_shown c.targets);
    uncovered = left_uncovered time c.queue.acknowledged;
    link = let on = link_raised c.hand c.queue stands.link in record { sent = on.sent; idle = on.idle };
    numbered = let are = numbered_each now_shown c.targets stands.numbered in record { listened = are.listened; refused = are.refused };
    snapshots = snapshots_raised time token c.targets;
  }

  pub stands_unchanged : (time : ℤ) (token : List ℕ) → Stands (told_unchanged time token c)
  stands_unchanged time token = by_test (may_raise time c) where
    by_test : (may : Bool) → Stands (cond may (raised time token c) c)
    by_test true = stands_raised time token
    by_test false = stands

  pub stands_told : (m : ListenMessage) → Stands (told m c)
  stands_told (message.Add ids) = stands
  stands_told (message.Remove ids cause) = stands_removed ids cause
  stands_told (message.Reset ids) = stands_staged (message.Reset ids)
  stands_told (message.Current ids time token) = stands_current ids
  stands_told (message.NoChange time token) = stands_unchanged time token
  stands_told (message.Changed d ids left) = stands_staged (message.Changed d ids left)
  stands_told (message.Deleted name time left) = stands_staged (message.Deleted name time left)
  stands_told (message.Removed name time left) = stands_staged (message.Removed name time left)

  -- ---- what it is answered on its stream

  pub stands_greeted : Stands (greeted c)
  stands_greeted = record {
    holds = stands.holds;
    uncovered = stands.uncovered;
    link = link_greeted c.hand c.queue stands.link;
    numbered = stands.numbered;
    snapshots = stands.snapshots;
  }

  pub stands_opened : (stream token : ℕ) → Stands (opened stream token c)
  stands_opened stream token = record {
    holds = stands.holds;
    uncovered = stands.uncovered;
    link = link_opened c.hand c.queue stands.link c.hand.stream stream token;
    numbered = stands.numbered;
    snapshots = stands.snapshots;
  }

  pub stands_counted : Stands (counted c)
  stands_counted = record {
    holds = stands.holds;
    uncovered = stands.uncovered;
    link = link_counted c.hand c.queue stands.link (suc c.hand.token);
    numbered = stands.numbered;
    snapshots = stands.snapshots;
  }

  pub stands_committed : (o : Option ℕ) (time : ℤ) → Stands (committed_in o time c)
  stands_committed None time = stands
  stands_committed (Some n) time = record {
    holds = holds_settled c.cache c.targets stands.holds time;
    uncovered = uncovered_left (snapshot_by time c.targets c.cache).snapshot (acknowledged_at time c.queue);
    link = link_covered c.hand c.queue stands.link (snapshot_by time c.targets c.cache).snapshot (acknowledged_at time c.queue) refl;
    numbered = stands.numbered;
    snapshots = snapshots_settled time c.targets c.cache stands.snapshots;
  }

  pub stands_refused : (o : Option ℕ) (code : Code) (text : List ℕ) → Stands (refused_in o code text c)
  stands_refused None code text = stands
  stands_refused (Some n) code text = record {
    holds = stands.holds;
    uncovered = stands.uncovered;
    link = link_unsent c.hand c.queue stands.link (refused_oldest c.queue) refl;
    numbered = stands.numbered;
    snapshots = stands.snapshots;
  }

pub stands_answered : (stream token : ℕ) (a : StreamAnswer) (c : Client) → Stands c → Stands (answered stream token a c)
stands_answered stream token answer.Stands c stands = stands_opened c stands stream token
stands_answered stream token (answer.Committed time results) c stands = by_test (token == suc c.hand.token) where
  by_test : (counts : Bool) → Stands (cond counts (committed_in (oldest_of c.queue) time (counted c)) c)
  by_test true = stands_committed (counted c) (stands_counted c stands) (oldest_of c.queue) time
  by_test false = stands
stands_answered stream token (answer.Refused code text) c stands = by_test (token == suc c.hand.token) where
  by_test : (counts : Bool) → Stands (cond counts (refused_in (oldest_of c.queue) code text (counted c)) c)
  by_test true = stands_refused (counted c) (stands_counted c stands) (oldest_of c.queue) code text
  by_test false = stands

stands_received : (m : Message) (c : Client) → Stands c → Stands (received m c)
stands_received (received_message.Listen m) c stands = stands_told c stands m
stands_received (received_message.Write stream token a) c stands = stands_answered stream token a (greeted c) (stands_greeted c stands)
stands_received (received_message.Commit id time results) c stands = stands
stands_received (received_message.GetDocument id document) c stands = stands
stands_received (received_message.BatchGetDocuments id answers) c stands = stands
stands_received (received_message.RunQuery id documents time) c stands = stands
stands_received (received_message.BeginTransaction id transaction) c stands = stands
stands_received (received_message.Rollback id) c stands = stands
stands_received (received_message.Error id code text) c stands = stands

-- ---- runs

pub stands_after : (s : Step) (c : Client) → May s c → Stands c → Stands (after s c)
stands_after (listens id t) c may stands = stands_listened c stands id t (above_last id t c may.1)
stands_after (unlistens id) c may stands = stands_unlistened c stands id
stands_after (writes ws moment) c may stands = record {
  holds = stands.holds;
  uncovered = stands.uncovered;
  link = record { sent = stands.link.sent; idle = stands.link.idle };
  numbered = stands.numbered;
  snapshots = stands.snapshots;
}
stands_after connects c may stands = stands_connected c stands
stands_after loses c may stands = stands_lost c stands
stands_after sends c may stands = stands_sent c stands
stands_after (receives m) c may stands = stands_received m c stands
stands_after tells c may stands = record { holds = stands.holds; uncovered = stands.uncovered; link = stands.link; numbered = stands.numbered; snapshots = stands.snapshots }

stands_all : (steps : List Step) (c : Client) → MayAll steps c → Stands c → Stands (after_all steps c)
stands_all [] c may stands = stands
stands_all (s ∷ steps) c may stands = stands_all steps (after s c) may.1 (stands_after s c may.0 stands)

pub always_stands : AlwaysStands
always_stands root targets batches steps may = stands_all steps (start root targets batches) may (begins root targets batches)
