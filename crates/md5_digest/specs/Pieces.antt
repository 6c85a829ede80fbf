-- What an `Md5` of src/ does with a message that comes in parts.
use Rattle.std.specs.Prelude.{ℕ, ◌+◌, ◌-◌, ◌*◌, ◌/◌, ◌%◌, ◌^◌, List, ◌++◌, length, take, drop, replicate}
use Rattle.md5_digest.specs.Rfc1321.{start, run, padding, output}
use Rattle.md5_digest.specs.declared.Md5.{Md5}

-- the bytes of w after its whole blocks
unfoldable pub rest : List ℕ → List ℕ
rest w = drop (length w / 64 * 64) w

-- r and zeros up to 64 bytes
abbrev pub fill : List ℕ → List ℕ
fill r = r ++ replicate (64 - length r) 0

-- the bytes that m holds back: those after the last whole block
unfoldable pub held : Md5 → List ℕ
held m = take (m.fed % 64) m.tail

-- before the first byte
unfoldable pub fresh : Md5
fresh = record { state = start; tail = replicate 64 0; fed = 0 }

-- m after the bytes of a: whole blocks are done, the rest is held back, bytes are counted modulo 2 ^ 64
unfoldable pub feed : Md5 → List ℕ → Md5
feed m a = record { state = run (held m ++ a) m.state; tail = fill (rest (held m ++ a)); fed = (m.fed + length a) % 2 ^ 64 }

-- the digest of all that m was fed
unfoldable pub finish_of : Md5 → List ℕ
finish_of m = output (run (held m ++ padding m.fed) m.state)
