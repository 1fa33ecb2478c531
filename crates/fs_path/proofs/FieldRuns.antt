-- A reader of a field path over whole texts.
use Rattle.std.proofs.Common.{◌≡◌, ℕ, ◌+◌, ◌<◌, Bool, true, false, cond, eqb, inl, inr, ◌||◌, Option, Some, None, Err, List, [], ◌∷◌, ◌++◌, length, take, get_or, refl, ap, sym, ◌∙◌, arith, suc}
use Rattle.std.proofs.lemmas.Bool.{and_parts, or_parts, false≢true}
use Rattle.std.proofs.lemmas.Bool.Decides.{eqb_tells}
use Rattle.std.proofs.lemmas.List.{append_assoc, append-nil}
use Rattle.std.specs.List.{list_all, flat_map}
use Rattle.std.specs.Option.{option_and_then}
use Rattle.fs_path.specs.declared.error.PathError.TheVariants.{BadQuote}
use Rattle.fs_path.specs.declared.stage.Stage.TheVariants.{Simple, Quoted}
use Rattle.fs_path.specs.FieldName.{is_name_byte}
use Rattle.fs_path.specs.Field.{escaped}
use Rattle.fs_path.specs.FieldReader.{Reading, step, goes_on, field_from}

-- where a reader stands after a text, if it goes on to the text's end
abbrev pub run : Reading → List ℕ → Option Reading
run r [] = Some r
run r (b ∷ bs) = option_and_then (λ q. run q bs) (step r b)

run_append_at : (o : Option Reading) (bs ys : List ℕ) → ((q : Reading) → run q (bs ++ ys) ≡ option_and_then (λ p. run p ys) (run q bs)) → option_and_then (λ q. run q (bs ++ ys)) o ≡ option_and_then (λ q. run q ys) (option_and_then (λ q. run q bs) o)
run_append_at None bs ys h = refl
run_append_at (Some q) bs ys h = h q

pub run-append : (r : Reading) (xs ys : List ℕ) → run r (xs ++ ys) ≡ option_and_then (λ q. run q ys) (run r xs)
run-append r [] ys = refl
run-append r (b ∷ bs) ys = run_append_at (step r b) bs ys (λ q. run-append q bs ys)

-- ---- what is read of a text, by the run over it

read_run_at : (o : Option Reading) (q : Reading) (at : ℕ) (bs ys : List ℕ) → ((p : Reading) → run p bs ≡ Some q → field_from p (at + 1) (bs ++ ys) ≡ field_from q (at + 1 + length bs) ys) → option_and_then (λ p. run p bs) o ≡ Some q → goes_on o at (λ p. field_from p (at + 1) (bs ++ ys)) ≡ field_from q (at + length (0 ∷ bs)) ys
read_run_at None q at bs ys more h = cc
read_run_at (Some p) q at bs ys more h = let count : at + 1 + length bs ≡ at + length (0 ∷ bs) = omega arith in more p h ∙ ap (λ n. field_from q n ys) count

pub read_run : (r q : Reading) (at : ℕ) (xs ys : List ℕ) → run r xs ≡ Some q → field_from r at (xs ++ ys) ≡ field_from q (at + length xs) ys
read_run r q at [] ys h =
    let same : r ≡ q = cc in
    let count : at ≡ at + 0 = omega arith in
    ap (λ p. field_from p at ys) same ∙ ap (λ n. field_from q n ys) count
read_run r q at (b ∷ bs) ys h = read_run_at (step r b) q at bs ys (λ p k. read_run p q (at + 1) bs ys k) h

-- a text that a reader doesn't get through: how many bytes it gets on
pub record Stuck (r : Reading) (at : ℕ) (xs : List ℕ) : Type 0 where
  pub count : ℕ
  pub within : count < length xs
  pub reader : Reading
  pub runs : run r (take count xs) ≡ Some reader
  pub fails : step reader (get_or xs count 0) ≡ None
  pub says : field_from r at xs ≡ Err (BadQuote (at + count))

stuck_at : (r : Reading) (at b : ℕ) (bs : List ℕ) (o : Option Reading) → step r b ≡ o → ((p : Reading) → run p bs ≡ None → Stuck p (at + 1) bs) → option_and_then (λ p. run p bs) o ≡ None → Stuck r at (b ∷ bs)
stuck_at r at b bs None e more h =
    let count : at ≡ at + 0 = omega arith in
    record { count = 0; within = omega arith; reader = r; runs = refl; fails = e; says = ap (λ o. goes_on o at (λ p. field_from p (at + 1) bs)) e ∙ ap (λ n. Err (BadQuote n)) count }
stuck_at r at b bs (Some p) e more h =
    let rest = more p h in
    let n = rest.count in
    let count : at + 1 + n ≡ at + suc n = omega arith in
    record {
      count = suc n;
      within = omega (arith, rest.within);
      reader = rest.reader;
      runs = ap (λ o. option_and_then (λ q. run q (take n bs)) o) e ∙ rest.runs;
      fails = rest.fails;
      says = ap (λ o. goes_on o at (λ q. field_from q (at + 1) bs)) e ∙ (rest.says ∙ ap (λ k. Err (BadQuote k)) count);
    }

pub stuck : (r : Reading) (at : ℕ) (xs : List ℕ) → run r xs ≡ None → Stuck r at xs
stuck r at [] h = cc
stuck r at (b ∷ bs) h = stuck_at r at b bs (step r b) refl (λ p k. stuck p (at + 1) bs k) h

-- ---- the run over a name

simple_next : (names : List (List ℕ)) (name : List ℕ) (b : ℕ) → is_name_byte b ≡ true → step (record { stage = Simple; names = names; name = name }) b ≡ Some (record { stage = Simple; names = names; name = name ++ b ∷ [] })
simple_next names name b h = elim (eqb_tells b 46) [
  | inl dot ↦ absurd (false≢true (ap is_name_byte (sym dot.1) ∙ h))
  | inr other ↦ rw (other.0, h) refl
]

pub run_simple : (names : List (List ℕ)) (name bs : List ℕ) → list_all is_name_byte bs ≡ true → run (record { stage = Simple; names = names; name = name }) bs ≡ Some (record { stage = Simple; names = names; name = name ++ bs })
run_simple names name [] h = ap (λ n. Some (record { stage = Simple; names = names; name = n })) (sym (append-nil name))
run_simple names name (b ∷ bs) h =
    let parts = and_parts (is_name_byte b) (list_all is_name_byte bs) h in
    ap (option_and_then (λ q. run q bs)) (simple_next names name b parts.0)
    ∙ (run_simple names (name ++ b ∷ []) bs parts.1
    ∙ ap (λ n. Some (record { stage = Simple; names = names; name = n })) (append_assoc name (b ∷ []) bs))

run_quoted_at : (names : List (List ℕ)) (front : List ℕ) (b : ℕ) (bs rest : List ℕ) (t : Bool) → (eqb b 96 || eqb b 92) ≡ t → run (record { stage = Quoted; names = names; name = front ++ b ∷ [] }) rest ≡ Some (record { stage = Quoted; names = names; name = (front ++ b ∷ []) ++ bs }) → run (record { stage = Quoted; names = names; name = front }) (cond t (92 ∷ b ∷ []) (b ∷ []) ++ rest) ≡ Some (record { stage = Quoted; names = names; name = (front ++ b ∷ []) ++ bs })
run_quoted_at names front b bs rest true e h = rw e h
run_quoted_at names front b bs rest false e h = let parts = or_parts (eqb b 96) (eqb b 92) e in rw (parts.0, parts.1) h

pub run_quoted : (names : List (List ℕ)) (front name : List ℕ) → run (record { stage = Quoted; names = names; name = front }) (flat_map escaped name) ≡ Some (record { stage = Quoted; names = names; name = front ++ name })
run_quoted names front [] = ap (λ n. Some (record { stage = Quoted; names = names; name = n })) (sym (append-nil front))
run_quoted names front (b ∷ bs) =
    run_quoted_at names front b bs (flat_map escaped bs) (eqb b 96 || eqb b 92) refl (run_quoted names (front ++ b ∷ []) bs)
    ∙ ap (λ n. Some (record { stage = Quoted; names = names; name = n })) (append_assoc front (b ∷ []) bs)
