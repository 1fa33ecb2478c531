-- What `__.*__` matches.
use Rattle.std.proofs.Common.{length, ◌+◌, ◌≡◌, ◌-◌, ◌↔◌, ◌≤◌, ◌&&◌, IsTrue, leb, codes, take, drop, arith, ℕ, true, List, ◌++◌, refl, ap, sym, ◌∙◌}
use Rattle.std.proofs.lemmas.Bool.{and_parts}
use Rattle.std.proofs.lemmas.Bool.Decides.{nat_tests}
use Rattle.std.proofs.lemmas.Slice.Eq.{bytes_eq-Decides}
use Rattle.std.proofs.lemmas.List.{length-append, length-take-le, take-append-drop, drop-append-le, drop_at}
use Rattle.fs_path.specs.Segment.{is_reserved, IsReserved}
use Rattle.fs_path.specs.TextOrder.{text_eq}

reserved_from : (text : List ℕ) → is_reserved text ≡ true → IsReserved text
reserved_from text h =
    let n = length text in
    let both = and_parts (leb 4 n && text_eq (codes "__") (take 2 text)) (text_eq (codes "__") (drop (n - 2) text)) h in
    let first = and_parts (leb 4 n) (text_eq (codes "__") (take 2 text)) both.0 in
    let long : 4 ≤ n = grind (arith, nat_tests, first.0) in
    let opens : codes "__" ≡ take 2 text = (bytes_eq-Decides (codes "__") (take 2 text)).0 first.1 in
    let closes : codes "__" ≡ drop (n - 2) text = (bytes_eq-Decides (codes "__") (drop (n - 2) text)).0 both.1 in
    let count : length (take (n - 2) text) ≡ n - 2 = length-take-le (n - 2) text (omega arith) in
    let inside : drop 2 text ≡ drop 2 (take (n - 2) text) ++ codes "__" =
    ap (drop 2) (sym (take-append-drop (n - 2) text))
    ∙ (drop-append-le 2 (take (n - 2) text) (drop (n - 2) text) (omega arith)
    ∙ ap (λ x. drop 2 (take (n - 2) text) ++ x) (sym closes)) in
    (drop 2 (take (n - 2) text), sym (take-append-drop 2 text) ∙ (ap (λ x. x ++ drop 2 text) (sym opens) ∙ ap (λ x. codes "__" ++ x) inside))

reserved_to : (text middle : List ℕ) → text ≡ codes "__" ++ (middle ++ codes "__") → is_reserved text ≡ true
reserved_to text middle e =
    let n = length text in
    let count : n ≡ 4 + length middle = ap length e ∙ omega (arith, length-append middle (codes "__")) in
    let long : leb 4 n ≡ true = grind (arith, nat_tests) in
    let opens : text_eq (codes "__") (take 2 text) ≡ true = ap (λ t. text_eq (codes "__") (take 2 t)) e in
    let end : drop (n - 2) text ≡ codes "__" = ap (drop (n - 2)) e ∙ drop_at (codes "__" ++ middle) (codes "__") (n - 2) (omega arith) in
    let closes : text_eq (codes "__") (drop (n - 2) text) ≡ true = (bytes_eq-Decides (codes "__") (drop (n - 2) text)).1 (sym end) in
    rw (long, opens, closes) refl

pub reserved_law : (text : List ℕ) → IsTrue (is_reserved text) ↔ IsReserved text
reserved_law text = (reserved_from text, λ h. reserved_to text h.0 h.1)
