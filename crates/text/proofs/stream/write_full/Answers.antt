use Rattle.std.proofs.Common.{◌≡◌, ◌+◌, ◌-◌, ℕ, List, ◌++◌, take, drop, length, rules, sym, ap, ◌∙◌, subst, take-add}
use Rattle.std.proofs.lemmas.List.{take_rest}
use Rattle.std.specs.Io.KnownBytes.{Appends}
use Rattle.std.proofs.KnownBytes.{Appends-trans}
use Rattle.text.proofs.stream.write_full.Goals as goal

take_more : (bytes : List ℕ) (at n : ℕ) → take at bytes ++ take n (take (length bytes - at) (drop at bytes)) ≡ take (at + n) bytes
take_more bytes at n = ap (λ (l : List ℕ). take at bytes ++ take n l) (take_rest bytes at) ∙ sym (take-add at n bytes)

pub loop-written-preserved-in-Ok : goal.loop-written-preserved-in-Ok
loop-written-preserved-in-Ok g c = record {
  within = search rules;
  taken =
      subst (Appends _ _) (take_more c.args.bytes.now c.loop-written.written c.in-Ok.n)
      (Appends-trans _ _ _ _ _ c.loop-written.invariant.taken c.in-Ok.ensures.bytes);
}
