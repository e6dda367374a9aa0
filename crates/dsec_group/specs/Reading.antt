-- Messages read with the records of their sections in groups.
use Rattle.std.specs.Prelude.{ℕ, List, Option, Some}
use Rattle.dsec_spec.specs.Reading.{◌>>=◌}
use Rattle.dsec_spec.specs.Records.{Record}
use Rattle.dsec_spec.specs.Groups.{groups_of}
use Rattle.dsec_spec.specs.Messages.{header_of}
use Rattle.dsec_message.specs.declared.sections.Sections.{Sections}
use Rattle.dsec_message.specs.MessageSections.{sections_and_place}
use Rattle.dsec_group.specs.Hashing.{message_seed}
use Rattle.dsec_group.specs.Places.{SeededGroups}
use Rattle.dsec_group.specs.declared.sections.GroupedSections.{GroupedSections}
use Rattle.dsec_group.specs.declared.seed.Seed.{Seed}

-- the groups of a section's records, hashed by a seed
abbrev pub seeded : Seed → List Record → SeededGroups
seeded seed section = record { groups = groups_of section; seed = seed }

-- the groups of a section, and the place after it
abbrev pub section_in_groups : Seed → Option (List Record × ℕ) → Option (SeededGroups × ℕ)
section_in_groups seed read = do
  section ← read
  Some (seeded seed section.0, section.1)

-- sections with their records in groups (RFC 2181 5), hashed by a seed
abbrev pub in_groups : Seed → Sections → GroupedSections
in_groups seed sections = record { question = sections.question; answer = seeded seed sections.answer; authority = seeded seed sections.authority }

-- what is read, and the place after it
abbrev pub GroupsRead : Type 0
GroupsRead = GroupedSections × ℕ

-- the first three sections in groups, hashed by the message's own seed, and the place after them (RFC 1035 4.1)
abbrev pub groups_and_place : List ℕ → Option GroupsRead
groups_and_place message = do
  sections ← sections_and_place message
  Some (in_groups (message_seed message (header_of message)) sections.0, sections.1)
