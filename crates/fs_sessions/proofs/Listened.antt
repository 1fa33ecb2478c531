-- What is told of the targets of a session, and where it isn't open.
use Rattle.std.proofs.Common.{◌≡◌, ℕ, false, List, [], map, Some, None, sym, ap, ◌∙◌}
use Rattle.std.specs.FinMap.{empty, entries, len-empty, len-entries}
use Rattle.std.specs.List.{flat_map}
use Rattle.std.specs.Ordering.{nat_cmp}
use Rattle.std.proofs.lemmas.List.{nil_from_length}
use Rattle.fs_listen.specs.Cuts.{cut, cut_behind, first_loading, is_ready, is_ready_at, least, positions_of}
use Rattle.fs_listen.specs.Listening.{Listened, Listening, none_listened}
use Rattle.fs_listen.specs.declared.cut.Cut.TheVariants.{NoTarget}
use Rattle.fs_machine.specs.Listeners.{listening_in}
use Rattle.fs_sessions.specs.Heard.{Heard, heard_in, listeners_of}
use Rattle.fs_sessions.proofs.Ears.{listening_found, listening_none}

module _ {A : Type 0} (tell : Listening → A) (session : ℕ) (hs : List Heard) where
  -- of a session that is open
  pub told_there : (h : Heard) (told : A) → Some h ≡ heard_in session hs → told ≡ tell h.held.listening → told ≡ tell (listening_in session (listeners_of hs))
  told_there h told is so = so ∙ ap tell (sym (listening_found session hs h (sym is)))

  -- and of another
  pub told_nowhere : (told : A) → None ≡ heard_in session hs → told ≡ tell none_listened → told ≡ tell (listening_in session (listeners_of hs))
  told_nowhere told is so = so ∙ ap tell (sym (listening_none session hs (sym is)))

-- ---- where there is no target

pub none_there : entries (empty {X = Listened} {R = nat_cmp}) ≡ []
none_there = nil_from_length _ (sym (len-entries (empty {X = Listened} {R = nat_cmp})) ∙ len-empty nat_cmp Listened)

pub none_cut : cut none_listened ≡ NoTarget
none_cut =
    ap (λ (es : List (ℕ × Listened)). cut_behind (first_loading es) (least (flat_map (λ (l : Listened). positions_of l.loaded) (map (λ (e : ℕ × Listened). e.1) es)))) none_there

pub none_ready : is_ready none_listened ≡ false
none_ready = ap (is_ready_at none_listened) none_cut
