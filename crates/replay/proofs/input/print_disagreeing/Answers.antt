-- What is written first and what is written next are appended together.
use Rattle.std.proofs.Common.{List, ℕ, ◌++◌, ap, ◌∙◌, append_assoc}
use Rattle.std.specs.Prelude.{Option, Some, None, Result, Ok, Err, OnOk}
use Rattle.std.specs.Io.KnownBytes.{Appends}
use Rattle.replay.specs.Row.{disagrees}
use Rattle.replay.proofs.input.print_disagreeing.Goals as goal

appends-both : (a b c : Option (List ℕ)) (x y : List ℕ) → Appends a b x → Appends b c y → Appends a c (x ++ y)
appends-both None b c x y h k = tt
appends-both (Some l) None c x y h k = absurd h
appends-both (Some l) (Some m) None x y h k = absurd k
appends-both (Some l) (Some m) (Some n) x y h k = k ∙ ap (λ (s : List ℕ). s ++ y) h ∙ append_assoc l x y

on-ok : {A E : Type 0} {P Q : Type 0} (r : Result A E) → (P → Q) → OnOk r P → OnOk r Q
on-ok (Ok x) f h = f h
on-ok (Err e) f h = tt

pub returns : goal.returns
returns g c =
    on-ok c.write_all-2.result
    (appends-both (g.W.Write.contents c.args.to.now) (g.W.Write.contents c.write_all.new.self) (g.W.Write.contents c.write_all-2.new.self) disagrees
    c.args.row.now c.in_ok-write_all.ensures.bytes)
    c.write_all-2.ensures.bytes
