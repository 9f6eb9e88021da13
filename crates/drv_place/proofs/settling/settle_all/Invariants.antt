use Rattle.drv_place.proofs.settling.settle_all.Given as goal
use Rattle.drv_place.specs.Settling.{marked_from, nothing}
use Rattle.std.proofs.Common.{◌≡◌, drop}

-- the bytes and places so far, with the rest of the text, give what the whole text gives
abbrev pub invariant-loop-byte : goal.invariant-loop-byte
invariant-loop-byte l = record {
  marked : marked_from (record { bytes = l.bytes.items; places = l.places.items }) l.place
      (drop l.byte-index l.text) ≡ marked_from nothing 0 l.text;
  place : l.place ≡ l.byte-index;
}
