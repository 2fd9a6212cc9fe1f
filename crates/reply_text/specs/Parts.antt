-- The parts of a line.
use Rattle.std.specs.Prelude.{ℕ, List, [], ◌∷◌}
use Rattle.std.specs.Fmt.{decimal}
use Rattle.std.specs.List.{join_with_byte}
use Rattle.net_prefix.specs.Address.{addr_text}
use Rattle.net_prefix.specs.Prefix.{prefix_text}
use Rattle.sim_event.specs.Wording.{none_text, path_text, origin_text, maybe_number_text, maybe_addr_text, clusters_text}
use Rattle.reply_text.specs.Replies.{source_text, communities_text}
use Rattle.reply_text.specs.declared.part.Part.{Part}
use Rattle.reply_text.specs.declared.part.Part.TheVariants.{Bytes, Number, MaybeNumber, MaybeAddr, Addr as AnAddr, Prefix, Source as ASource, Origin as AnOrigin, Path, Clusters, Communities}

-- the texts, joined by the byte; a dash where there is none
abbrev pub dash_or_joined : ℕ → List (List ℕ) → List ℕ
dash_or_joined c [] = none_text
dash_or_joined c (t ∷ ts) = join_with_byte c (t ∷ ts)

-- the text of a part
abbrev pub part_text : Part → List ℕ
part_text (Bytes b) = b.now
part_text (Number n) = decimal n
part_text (MaybeNumber n) = maybe_number_text n
part_text (AnAddr a) = addr_text a
part_text (MaybeAddr a) = maybe_addr_text a
part_text (Prefix p) = prefix_text p
part_text (ASource s) = source_text s
part_text (AnOrigin o) = origin_text o
part_text (Path p) = path_text p.now
part_text (Clusters c) = clusters_text c.now
part_text (Communities c) = communities_text c.now
