-- Replies that are delivered, and taken back.
use Rattle.std.proofs.Common.{◌≡◌, ℕ, List, [], ◌∷◌, ◌++◌, Some, refl, sym, ap, ◌∙◌, arith, suc, take, get_or, length, ◌-◌, ◌<◌}
use Rattle.std.specs.Prelude.{map}
use Rattle.std.proofs.Math.Seq.{take-length, take-suc}
use Rattle.std.proofs.lemmas.Option.{same_Some}
use Rattle.fs_machine.specs.Sessions.{delivered}
use Rattle.fs_machine.specs.declared.reply.Reply.{Reply}
use Rattle.fs_machine.specs.declared.session.Session.{Session}
use Rattle.fs_sessions.specs.Place.{all_delivered, all_taken_back, taken_back}
use Rattle.fs_sessions.proofs.Places.{delivered_and_taken_back}

pub delivered_last : (rs : List Reply) (r : Reply) (ss : List Session) → all_delivered (rs ++ r ∷ []) ss ≡ delivered r.session r.message (all_delivered rs ss)
delivered_last [] r ss = refl
delivered_last (x ∷ rs) r ss = delivered_last rs r (delivered x.session x.message ss)

pub taken_back_last : (ns : List ℕ) (n : ℕ) (ss : List Session) → all_taken_back (ns ++ n ∷ []) ss ≡ all_taken_back ns (taken_back n ss)
taken_back_last [] n ss = refl
taken_back_last (x ∷ ns) n ss = ap (taken_back x) (taken_back_last ns n ss)

-- a list is what is left of it and its last
pub popped : (xs : List ℕ) (len x : ℕ) → length xs ≡ len → 0 < len → Some x ≡ Some (get_or xs (len - 1) 0) → take (len - 1) xs ++ x ∷ [] ≡ xs
popped xs len x is some last =
    let within : len - 1 < length xs = omega (arith, is, some) in
    let whole : suc (len - 1) ≡ length xs = omega (arith, is, some) in
    ap (λ y. take (len - 1) xs ++ y ∷ []) (same_Some x (get_or xs (len - 1) 0) last)
    ∙ sym (take-suc xs (len - 1) 0 within)
    ∙ ap (λ n. take n xs) whole
    ∙ take-length xs

-- replies that are taken back are as if they hadn't been delivered
pub all_back : (rs : List Reply) (ss : List Session) → all_taken_back (map (λ r. r.session) rs) (all_delivered rs ss) ≡ ss
all_back [] ss = refl
all_back (r ∷ rs) ss = ap (taken_back r.session) (all_back rs (delivered r.session r.message ss)) ∙ delivered_and_taken_back r.session r.message ss
