-- The starred examples of document 01, by computation from the definitions that the rows cite.
use mathlib.Core.Path.{refl}
use Rattle.endian.specs.Numbers.{big}
use Rattle.refusals.specs.Refusals.{pick, holds, lowest, first}
use Rattle.refusals.specs.Ranges.{lookup}
use Rattle.layout.specs.CodeDirectory.{version, hash_offset, ident_offset, n_special_slots, n_code_slots, code_limit32, hash_size, hash_type, page_size, scatter_offset, code_limit64}
use Rattle.geometry.specs.Pages.{page_bytes, page_count, met_first, met_end, range_rows}
use Rattle.directory.specs.Pages.{code_limit, P, pages}
use Rattle.directory.specs.Head.{head_sizes, head_size, head_of, since}
use Rattle.directory.specs.Rows.{special_outside, code_outside, zero_at, ident_length, field_rows, slot_rows, blob_rows}
use Rattle.admission.specs.Measured.{Measured}

pub measured_table : Measured
unfolding big pick holds lowest first lookup version hash_offset ident_offset n_special_slots n_code_slots code_limit32 hash_size hash_type page_size scatter_offset code_limit64 page_bytes page_count met_first met_end range_rows code_limit P pages head_sizes head_size head_of since special_outside code_outside zero_at ident_length field_rows slot_rows blob_rows
measured_table =
    (refl, (refl, (refl, (refl, (refl, (refl, (refl, (refl, (refl, (refl, (refl, (refl, (refl, (refl, (refl, (refl, (refl, (refl, (refl, (refl, tt))))))))))))))))))))
