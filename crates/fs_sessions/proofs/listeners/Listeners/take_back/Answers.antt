use Rattle.std.proofs.Common.{◌≡◌, ◌-◌, length, map, take, sym, ap, ◌∙◌, arith}
use Rattle.std.specs.Prelude.{List}
use Rattle.std.proofs.lemmas.List.{length-map, take-map}
use Rattle.fs_sessions.specs.Heard.{Heard, heard_of}
use Rattle.fs_sessions.proofs.listeners.Listeners.take_back.Goals as goal

pub returns : goal.returns
returns c =
    let v = c.self.inside.list in
    let long : v.len ≡ length (map heard_of v.items) = omega (arith, v.ok.0, length-map v.items heard_of) in
    ap (map heard_of) c.pop.ensures.rest
    ∙ sym (take-map heard_of (v.len - 1) v.items)
    ∙ ap (λ n. take (n - 1) (map heard_of v.items)) long
    ∙ ap (λ (hs : List Heard). take (length hs - 1) hs) c.self.view_is
