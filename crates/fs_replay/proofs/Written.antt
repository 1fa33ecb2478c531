-- What lines write, cut off one after another.
use Rattle.std.proofs.Common.{◌≡◌, ℕ, ◌+◌, Bool, true, false, cond, eqb, List, [], ◌∷◌, ◌++◌, refl, ap, sym, ◌∙◌, append_assoc}
use Rattle.std.proofs.lemmas.List.{append-nil}
use Rattle.std.specs.List.{onto_first}
use Rattle.fs_replay.specs.declared.state.State.{State}
use Rattle.fs_replay.specs.Step.{start, after_line, line_output}
use Rattle.fs_machine.specs.declared.config.Config.{Config}
use Rattle.fs_machine.specs.declared.limits.Limits.{Limits}
use Rattle.fs_replay.specs.Held.{held_lines}
use Rattle.fs_replay.specs.Transcript.{lines_of, all_but_last, after_lines, written, played, transcript}
use Rattle.fs_replay.proofs.Flow.{nothing_between}

some_lines_at : (b : Bool) (x : ℕ) (lines : List (List ℕ)) → (line : List ℕ) × (more : List (List ℕ)) × (cond b ([] ∷ lines) (onto_first x lines) ≡ line ∷ more)
some_lines_at true x lines = ([], lines, refl)
some_lines_at false x [] = (x ∷ [], [], refl)
some_lines_at false x (line ∷ lines) = (x ∷ line, lines, refl)

-- a text has one line at least
pub some_lines : (text : List ℕ) → (line : List ℕ) × (more : List (List ℕ)) × (lines_of text ≡ line ∷ more)
some_lines [] = ([], [], refl)
some_lines (x ∷ xs) = some_lines_at (eqb x 10) x (lines_of xs)

-- a line before others isn't the last
pub not_last : (line : List ℕ) (text : List ℕ) → all_but_last (line ∷ lines_of text) ≡ line ∷ all_but_last (lines_of text)
not_last line text = let some = some_lines text in rw some.2 refl

-- the first line writes first
pub played_cut : (whole : Bool) (s : State) (n : ℕ) (text line more : List ℕ) → lines_of text ≡ line ∷ lines_of more → played whole s n text ≡ line_output s n line ++ played whole (after_line s n line) (n + 1) more
played_cut true s n text line more cut = rw cut (append_assoc (line_output s n line) (written (after_line s n line) (n + 1) (lines_of more)) (held_lines (after_lines (after_line s n line) (n + 1) (lines_of more))))
played_cut false s n text line more cut = rw (cut, not_last line more) refl

-- What was given, what is to be given and what the rest writes: a line is carried out.
pub told_line : (whole : Bool) (s t : State) (n : ℕ) (given out next text line more total : List ℕ)
    → given ++ (out ++ played whole s n text) ≡ total → lines_of text ≡ line ∷ lines_of more → next ≡ out ++ line_output s n line → t ≡ after_line s n line
    → given ++ (next ++ played whole t (n + 1) more) ≡ total
told_line whole s t n given out next text line more total told cut grown after =
    ap (λ u. given ++ (next ++ played whole u (n + 1) more)) after
    ∙ ap (λ o. given ++ (o ++ played whole (after_line s n line) (n + 1) more)) grown
    ∙ ap (λ r. given ++ r) (append_assoc out (line_output s n line) (played whole (after_line s n line) (n + 1) more) ∙ ap (λ p. out ++ p) (sym (played_cut whole s n text line more cut)))
    ∙ told

-- and a piece of the output is given
pub told_given : (given piece out next rest total : List ℕ) → given ++ (out ++ rest) ≡ total → out ≡ piece ++ next → (given ++ piece) ++ (next ++ rest) ≡ total
told_given given piece out next rest total told cut =
    append_assoc given piece (next ++ rest) ∙ ap (λ r. given ++ r) (sym (append_assoc piece next rest) ∙ ap (λ o. o ++ rest) (sym cut)) ∙ told

-- ---- a script that was cut off

written_front : (s : State) (n : ℕ) (lines : List (List ℕ)) → (more : List ℕ) × (written s n (all_but_last lines) ++ more ≡ written s n lines)
written_front s n [] = ([], refl)
written_front s n (line ∷ []) = (written s n (line ∷ []), refl)
written_front s n (line ∷ next ∷ lines) =
    let rest = written_front (after_line s n line) (n + 1) (next ∷ lines) in
    (rest.0, append_assoc (line_output s n line) (written (after_line s n line) (n + 1) (all_but_last (next ∷ lines))) rest.0 ∙ ap (λ w. line_output s n line ++ w) rest.1)

module _ (config : Config) (limits : Limits) where
  -- what a script writes that was cut off begins what the whole script writes
  pub played_front : (whole : Bool) (script : List ℕ) → (more : List ℕ) × (played whole (start config limits) 1 script ++ more ≡ transcript config limits script)
  played_front true script = ([], append-nil (transcript config limits script))
  played_front false script =
      let s = start config limits in
      let front = written_front s 1 (lines_of script) in
      let held = held_lines (after_lines s 1 (lines_of script)) in
      (front.0 ++ held, sym (append_assoc (written s 1 (all_but_last (lines_of script))) front.0 held) ∙ ap (λ w. w ++ held) front.1)

  -- where a script writes nothing, it does not where it was cut off
  pub played_nothing : (whole : Bool) (script : List ℕ) → transcript config limits script ≡ [] → played whole (start config limits) 1 script ≡ []
  played_nothing whole script none =
      let front = played_front whole script in
      nothing_between [] (played whole (start config limits) 1 script) front.0 (transcript config limits script) front.1 none
