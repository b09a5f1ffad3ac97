-- What is written as octets is read again.
use Rattle.std.proofs.Common.{ℕ, ◌≡◌, ◌∙◌, ◌^◌, ◌<◌, List, ◌++◌, ap}
use Rattle.byteorder.specs.Endian.{big_bytes, big_number}
use Rattle.byteorder.specs.Numbers.{big_number-reads_back}

pub read_again : (n number : ℕ) (octets rest : List ℕ) → octets ≡ big_bytes n number ++ rest → number < 256 ^ n → big_number n octets ≡ number
read_again n number octets rest written small = ap (big_number n) written ∙ big_number-reads_back n number rest small
