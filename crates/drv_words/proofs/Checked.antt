use Rattle.drv_words.specs.Checksums.{checksum}
use Rattle.std.proofs.Common.{[], codes, refl, ◌≡◌}

-- The published test values of FNV-1a (Fowler, Noll, Vo, "test_fnv.c").

-- of no bytes
of_nothing : checksum [] ≡ 0xcbf29ce484222325
of_nothing = refl

-- of one letter
of_a : checksum (codes "a") ≡ 0xaf63dc4c8601ec8c
of_a = refl

-- of a word
of_foobar : checksum (codes "foobar") ≡ 0x85944171f73967e8
of_foobar = refl
