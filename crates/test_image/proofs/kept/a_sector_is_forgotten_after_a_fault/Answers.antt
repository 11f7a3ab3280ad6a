use Rattle.test_image.proofs.kept.a_sector_is_forgotten_after_a_fault.Goals as goal

pub invariant_of-machine-in_err-file : goal.invariant_of-machine-in_err-file
invariant_of-machine-in_err-file g c =
    record { one_drive = c.run-3.new.self.one_drive; ends_line = c.run-3.new.self.ends_line }

pub invariant_of-machine-in_err-set_len : goal.invariant_of-machine-in_err-set_len
invariant_of-machine-in_err-set_len g c =
    record { one_drive = c.run-3.new.self.one_drive; ends_line = c.run-3.new.self.ends_line }

pub invariant_of-machine-in_err-set_len-2 : goal.invariant_of-machine-in_err-set_len-2
invariant_of-machine-in_err-set_len-2 g c =
    record { one_drive = c.read_at-3.new.machine.one_drive; ends_line = c.read_at-3.new.machine.ends_line }

pub invariant_of-machine-in_err-remove_file : goal.invariant_of-machine-in_err-remove_file
invariant_of-machine-in_err-remove_file g c =
    record { one_drive = c.read_at-6.new.machine.one_drive; ends_line = c.read_at-6.new.machine.ends_line }
