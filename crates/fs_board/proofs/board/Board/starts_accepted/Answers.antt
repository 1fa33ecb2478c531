use Rattle.std.proofs.Common.{◌≡◌, List, [], ◌∷◌, Option, Some, None, refl, ap, ◌∙◌}
use Rattle.std.specs.Prelude.{ℤ, is_some, slice_get}
use Rattle.std.specs.Option.{option_map}
use Rattle.fs_board.specs.Board.{posted, Posted, ready}
use Rattle.fs_board.specs.declared.entry.Entry.{Entry}
use Rattle.fs_board.proofs.board.Board.starts_accepted.Goals as goal

module _ {A B : Type 0} where
  mapped : (o : Option B) (t : ℤ) (a : A) → is_some o ≡ is_some {T = ℤ × A × B} (option_map (λ batch. (t, a, batch)) o)
  mapped None t a = refl
  mapped (Some batch) t a = refl

  first_ready : (es : List (ℤ × Entry A B)) (e : ℤ × Entry A B) → slice_get es 0 ≡ Some e → is_some e.1.batch ≡ is_some (ready (posted es))
  first_ready [] e is = absurd (cc)
  first_ready (f ∷ es) e is = let same : e ≡ f = cc in ap (λ (h : ℤ × Entry A B). is_some h.1.batch) same ∙ mapped f.1.batch f.0 f.1.asked

pub returns-in-Some : goal.returns-in-Some
returns-in-Some g c =
    c.is_some.ensures ∙ first_ready c.self.inside.by_time.entries (c.in-Some.field-0-0.now, c.in-Some.entry.now) c.in-Some.ensures.first
    ∙ ap (λ (p : Posted g.row.A.Denot g.row.B.Denot). is_some (ready p.commits)) c.self.view_is
