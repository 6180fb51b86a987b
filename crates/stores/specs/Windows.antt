-- A saved window as a frame.
use Rattle.frames.specs.declared.frame.Frame.{Frame}
use Rattle.stores.specs.declared.window.SavedWindow.{SavedWindow}

-- the frame that a saved window is
abbrev pub saved_frame : SavedWindow → Frame
saved_frame w = w.frame
