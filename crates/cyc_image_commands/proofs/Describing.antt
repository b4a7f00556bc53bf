-- Lemmas about the answers to the image commands, for each point of a command's execution at which it may stop.
use Rattle.std.proofs.Common.{◌≡◌, ◌∙◌, ℕ, suc, ◌+◌, ◌≤◌, List, [], ◌∷◌, map, length, take, drop, Option, Result, Ok, Err, refl, sym, ap, subst, inl, inr, arith}
use Rattle.std.specs.Prelude.{All}
use Rattle.std.proofs.lemmas.List.{length-drop, length-take-le}
use Rattle.std.specs.Io.KnownBytes.{Appends, Keeps}
use Rattle.cyc_words.specs.Device.{AppendsPrefix}
use Rattle.cyc_elf.specs.declared.fault.ElfFault.{ElfFault}
use Rattle.cyc_elf.specs.declared.fault.ElfFault.TheVariants as Elf
use Rattle.cyc_elf.specs.declared.outline.Outline.{Outline}
use Rattle.cyc_elf.specs.declared.program_header.ProgramHeader.{ProgramHeader}
use Rattle.cyc_elf.specs.Image.{ImageContents}
use Rattle.cyc_elf.specs.Outline.{Outlines, fields_of, outlined}
use Rattle.cyc_elf.specs.Reading.{segment_of}
use Rattle.cyc_emulator.specs.Faults.{of_elf}
use Rattle.cyc_emulator.specs.declared.report.RunFault.TheVariants as faults
use Rattle.cyc_host.specs.inside.Answer.{answer_of_run_fault}
use Rattle.cyc_image_commands.specs.inside.Info.{Extent, extent_in, extent_of, info_text, outline_text, reported_of}
use Rattle.cyc_image_commands.specs.inside.Work.{Describes}
use Rattle.cyc_host.specs.declared.answer.Answer.TheVariants.{Done, NoMemory, WriteFault}

-- ---- an image is described by its outline

-- Says that the image file contains all bytes of the given segments.
abbrev pub AreStored : (file : List ℕ) → List ProgramHeader → Type 0
AreStored file loads = All (λ h. h.offset + h.file_size ≤ length file) loads

stored_of : (file : List ℕ) (h : ProgramHeader) → h.offset + h.file_size ≤ length file → length (take h.file_size (drop h.offset file)) ≡ h.file_size
stored_of file h fits = length-take-le h.file_size (drop h.offset file) (omega (arith, length-drop h.offset file))

extent_reported : (file : List ℕ) (h : ProgramHeader) → h.offset + h.file_size ≤ length file → extent_of (segment_of file (fields_of h)) ≡ extent_in h
extent_reported file h fits = ap (λ (n : ℕ). record { vaddr = h.vaddr; flags = h.flags; stored = n; size = h.memory_size }) (stored_of file h fits)

extents_reported : (file : List ℕ) (loads : List ProgramHeader) → AreStored file loads → map extent_of (map (segment_of file) (map fields_of loads)) ≡ map extent_in loads
extents_reported file [] stored = refl
extents_reported file (h ∷ hs) stored =
    ap (λ (e : Extent). e ∷ map extent_of (map (segment_of file) (map fields_of hs))) (extent_reported file h (stored 0 h (omega arith)))
    ∙ ap (λ (es : List Extent). extent_in h ∷ es) (extents_reported file hs (λ k d below. stored (suc k) d (omega (arith, below))))

outline_reported : (file : List ℕ) (o : Outline) → AreStored file o.loads.items → outline_text o ≡ info_text (outlined file o)
outline_reported file o stored = ap (λ (es : List Extent). reported_of o.entry es o.note) (sym (extents_reported file o.loads.items stored))

-- ---- answers to requests

pub no_memory : (read : Result ImageContents ElfFault) (old new : Option (List ℕ)) → Keeps old new → Describes read old new NoMemory
no_memory (Err fault) old new kept = (inl refl, kept)
no_memory (Ok image) old new kept = inl (refl, kept)

pub all_reported : (read : Result ImageContents ElfFault) (file : List ℕ) (o : Outline) (text : List ℕ) (old new : Option (List ℕ))
    → Outlines file (Ok o) read → AreStored file o.loads.items → text ≡ outline_text o → Appends old new text → Describes read old new Done
all_reported read file o text old new is stored said written =
    subst (λ r. Describes r old new Done) (sym is) (inr (subst (Appends old new) (said ∙ outline_reported file o stored) written))

pub part_reported : (read : Result ImageContents ElfFault) (file : List ℕ) (o : Outline) (text : List ℕ) (old new : Option (List ℕ))
    → Outlines file (Ok o) read → AreStored file o.loads.items → text ≡ outline_text o → AppendsPrefix old new text → Describes read old new WriteFault
part_reported read file o text old new is stored said written =
    subst (λ r. Describes r old new WriteFault) (sym is) (inr (subst (AppendsPrefix old new) (said ∙ outline_reported file o stored) written))

-- If the bytes are not an image, the answer to the command names the rule for images that they violate.
describes_fault : (read : Result ImageContents ElfFault) (fault : ElfFault) (old new : Option (List ℕ)) → read ≡ Err fault → Keeps old new → Describes read old new (answer_of_run_fault (faults.Elf fault))
describes_fault read fault old new is kept = subst (λ r. Describes r old new (answer_of_run_fault (faults.Elf fault))) (sym is) (inr refl, kept)

pub describes_refusal : (read : Result ImageContents ElfFault) (file : List ℕ) (fault : ElfFault) (old new : Option (List ℕ))
    → Outlines file (Err fault) read → Keeps old new → Describes read old new (answer_of_run_fault (of_elf fault))
describes_refusal read file Elf.Memory old new reported kept = no_memory read old new kept
describes_refusal read file Elf.Truncated old new reported kept = describes_fault read Elf.Truncated old new reported kept
describes_refusal read file Elf.NotElf32Big old new reported kept = describes_fault read Elf.NotElf32Big old new reported kept
describes_refusal read file Elf.NotMipsExec old new reported kept = describes_fault read Elf.NotMipsExec old new reported kept
describes_refusal read file Elf.BadSegment old new reported kept = describes_fault read Elf.BadSegment old new reported kept
describes_refusal read file Elf.Interp old new reported kept = describes_fault read Elf.Interp old new reported kept
describes_refusal read file Elf.BadEntry old new reported kept = describes_fault read Elf.BadEntry old new reported kept
