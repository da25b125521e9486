-- Which address the word for a broker names.
use Rattle.std.specs.Prelude.{◌≡◌, ℕ, ◌<◌, ◌^◌, ◌⊎◌, List, [], ◌∷◌, ◌++◌, codes, Option, MatchOption}
use Rattle.std.specs.Net.Addr.{ipv4_octets}
use Rattle.std.specs.Net.Grammar.{IsNumber, IsSocketText}
use Rattle.std.specs.Net.Socket.{v4_ip, v4_port}
use Rattle.std.specs.declared.net.socket_addr.SocketAddr.{SocketAddr}
use Rattle.std.specs.declared.net.socket_addr.SocketAddr.TheVariants.{V4}
use Rattle.std.specs.declared.net.socket_addr.SocketAddrV4.{SocketAddrV4}

-- such a value, or none where there is none
abbrev pub Finds : {A : Type 0} → (A → Type 0) → Option A → Type 0
Finds {A} Such answer = MatchOption answer ((a : A) → ¬ Such a) Such

-- digits alone, which write a number of so many bits
abbrev pub WriteNumber : ℕ → List ℕ → ℕ → Type 0
WriteNumber bits digits number = IsNumber 10 digits number × (number < 2 ^ bits)

-- digits alone, which write a port
abbrev pub WritesPort : List ℕ → ℕ → Type 0
WritesPort digits port = WriteNumber 16 digits port

-- the port that the digits write, or none where they write none
abbrev pub IsPortOf : List ℕ → Option ℕ → Type 0
IsPortOf digits answer = Finds (WritesPort digits) answer

-- `localhost:` and a port, for 127.0.0.1 at this port
pub record IsLocalhost (word : List ℕ) (address : SocketAddr) : Type 0 where
  pub local : SocketAddrV4
  pub digits : List ℕ
  pub named : address ≡ V4 local
  pub octets : ipv4_octets (v4_ip local) ≡ 127 ∷ 0 ∷ 0 ∷ 1 ∷ []
  pub spelled : word ≡ codes "localhost:" ++ digits
  pub port : WritesPort digits (v4_port local)

-- the word names this address: as localhost, or as `IP:PORT`
abbrev pub NamesBroker : List ℕ → SocketAddr → Type 0
NamesBroker word address = IsLocalhost word address ⊎ IsSocketText word address

-- the address that the word names, or none where it names none
abbrev pub IsAddressOf : List ℕ → Option SocketAddr → Type 0
IsAddressOf word answer = Finds (NamesBroker word) answer
