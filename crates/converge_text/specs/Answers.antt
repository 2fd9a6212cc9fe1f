-- What a line is answered where messages may be delivered until none waits (own).
use Rattle.std.specs.Prelude.{◌≡◌, ◌⊎◌, ℕ, ◌<◌, ◌≤◌, Bool, true, false, List, [], ◌∷◌, ◌++◌, codes, length, min, Option, Some, None}
use Rattle.std.specs.Fmt.{decimal}
use Rattle.std.specs.List.{flat_map}
use Rattle.net_prefix.specs.declared.addr.Addr.{Addr}
use Rattle.net_prefix.specs.Address.{addr_text}
use Rattle.net_prefix.specs.Prefix.{prefix_text}
use Rattle.net_conf.specs.declared.refusal.Refusal.TheVariants.{Memory}
use Rattle.sim_event.specs.declared.reply.Reply.TheVariants.{Done}
use Rattle.reference_machine.specs.Network.{Network}
use Rattle.reply_text.specs.Replies.{line_end, end_line, reply_text, refusal_text}
use Rattle.convergence.specs.declared.delivery.Delivery.{Delivery}
use Rattle.convergence.specs.declared.delivery.Tally.{Tally}
use Rattle.convergence.specs.declared.ending.Ending.{Ending}
use Rattle.convergence.specs.declared.ending.Ending.TheVariants.{Converged, Limit, OutOfMemory}
use Rattle.convergence.specs.declared.waiting.Queued.{Queued}
use Rattle.convergence.specs.Waiting.{on_way, queued_of, IsNextWaiting}
use Rattle.convergence.specs.Kept.{Kept, with_snapshot, IsRestored}
use Rattle.convergence.specs.Deliveries.{reply_of, tally_of, AreTaken, EndsBy}
use Rattle.sim_text.specs.Serving.{IsAnswer as IsCommandAnswer}
use Rattle.converge_text.specs.declared.request.Request.{Request}
use Rattle.converge_text.specs.declared.request.Request.TheVariants.{Converge as Deliveries, Waiting, Snapshot, Restore}
use Rattle.converge_text.specs.Requests.{Asks, most_of}

-- DELIVERIES

-- a delivery as a command
unfoldable pub command_line : Delivery → List ℕ
command_line d = codes "deliver " ++ addr_text d.from ++ codes " " ++ addr_text d.to ++ line_end

-- the same, with its reply
abbrev pub delivery_text : Delivery → List ℕ
delivery_text d = command_line d ++ reply_text (reply_of d)

-- all of them, if they are to be written
abbrev pub echoed : Bool → List Delivery → List ℕ
echoed false ds = []
echoed true ds = flat_map delivery_text ds

-- how many were made
unfoldable pub counts_text : List ℕ → Tally → List ℕ
counts_text words t = words ++ decimal t.made ++ codes " (" ++ decimal t.updates ++ codes " updates, "
    ++ decimal t.withdrawals ++ codes " withdrawals)" ++ line_end

abbrev pub ending_text : Ending → Tally → List ℕ
ending_text Converged t = counts_text (codes "converged after ") t
ending_text Limit t = counts_text (codes "not converged after ") t
ending_text OutOfMemory t = refusal_text Memory

-- messages that wait were delivered one after another, n at most, each in a step of the machine's own: until none
-- waits, or n were made, or there was no memory for the next, and all made before stands
pub record AreDelivered (s : Network) (n : ℕ) (echo : Bool) (text : List ℕ) (s' : Network) : Type 0 where
  pub deliveries : List Delivery
  pub ending : Ending
  pub taken : AreTaken s deliveries s'
  pub few : length deliveries ≤ n
  pub ends : EndsBy ending s' n (length deliveries)
  pub text_is : text ≡ echoed echo deliveries ++ ending_text ending (tally_of deliveries)

-- WHERE MESSAGES WAIT

-- the direction, how many messages wait in it, and the prefix of the first
unfoldable pub queued_text : Addr → Addr → Queued → List ℕ
queued_text from to queued = addr_text from ++ codes " " ++ addr_text to ++ codes " " ++ decimal queued.count
    ++ codes " " ++ prefix_text queued.prefix ++ line_end

abbrev pub maybe_queued_text : Addr → Addr → Option Queued → List ℕ
maybe_queued_text from to None = []
maybe_queued_text from to (Some queued) = queued_text from to queued

abbrev pub waiting_line : Network → Addr × Addr → List ℕ
waiting_line s d = maybe_queued_text d.0 d.1 (queued_of (on_way s d.0 d.1))

-- these are all directions past the start in which a message waits, by sender, then by receiver
abbrev pub AreWaiting : Network → Option (Addr × Addr) → List (Addr × Addr) → Type 0
AreWaiting s start [] = IsNextWaiting s start None
AreWaiting s start (d ∷ ds) = IsNextWaiting s start (Some d) × AreWaiting s (Some d) ds

-- how many there are, as a number of 64 bits
abbrev pub count_of : List (Addr × Addr) → ℕ
count_of ds = min (length ds) 18446744073709551615

-- they are listed, and counted
abbrev pub AreListed : Network → List ℕ → Type 0
AreListed s text = (ds : List (Addr × Addr)) × AreWaiting s None ds
    × (text ≡ flat_map (waiting_line s) ds ++ end_line (count_of ds))

-- SNAPSHOTS

-- words, and a number behind them
unfoldable pub numbered_text : List ℕ → ℕ → List ℕ
numbered_text words n = words ++ decimal n ++ line_end

-- the network is kept, and it is said how many are; or there was no memory for that, and nothing has changed
abbrev pub IsSnapshotReply : Kept → List ℕ → Kept → Type 0
IsSnapshotReply s text s' =
    ((s' ≡ with_snapshot s) × (text ≡ numbered_text (codes "snapshot ") (length s'.snapshots)))
    ⊎ ((text ≡ refusal_text Memory) × (s' ≡ s))

-- the network that was kept as this number, from 1 on, is there again; or none is kept so, and nothing has changed
abbrev pub IsRestoreReply : ℕ → Kept → List ℕ → Kept → Type 0
IsRestoreReply n s text s' =
    (IsRestored n s s' × (text ≡ reply_text Done))
    ⊎ (((n ≡ 0) ⊎ (length s.snapshots < n)) × (text ≡ numbered_text (codes "no snapshot ") n) × (s' ≡ s))

-- LINES

-- the network is what each speaks of; the snapshots stay, but where they are asked for
abbrev pub IsReplyTo : Request → Kept → List ℕ → Kept → Type 0
IsReplyTo (Deliveries asked) s text s' = AreDelivered s.network (most_of asked.most) asked.echo text s'.network
    × (s'.snapshots ≡ s.snapshots)
IsReplyTo Waiting s text s' = AreListed s.network text × (s' ≡ s)
IsReplyTo Snapshot s text s' = IsSnapshotReply s text s'
IsReplyTo (Restore n) s text s' = IsRestoreReply n s text s'

-- a line that asks for one of these is answered so; any other is answered as a command
abbrev pub IsAnswer : Kept → List ℕ → List ℕ → Kept → Type 0
IsAnswer s line text s' =
    ((request : Request) × Asks line request × IsReplyTo request s text s')
    ⊎ (((request : Request) → Asks line request → ⊥) × IsCommandAnswer s.network line text s'.network
    × (s'.snapshots ≡ s.snapshots))
