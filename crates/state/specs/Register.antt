-- A link register: empty, or one packet (01, State memory).
use Rattle.std.specs.Prelude.{ℕ, Option}
use Rattle.state.specs.declared.Packet.{Packet}

abbrev pub Register : Type 0
Register = Option Packet

-- the packet with this flow, serial, entry cycle and D
abbrev pub packet_with : (flow serial entry deflections : ℕ) → Packet
packet_with flow serial entry deflections = record { flow = flow; serial = serial; entry = entry; deflections = deflections }
